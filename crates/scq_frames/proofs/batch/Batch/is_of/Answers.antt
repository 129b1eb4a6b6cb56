-- All parts are of the batch's file.
use Rattle.std.proofs.Common.{◌≡◌, ◌↔◌, IsTrue, List, subst, arith}
use Rattle.std.specs.Prelude.{nat_eq}
use Rattle.std.specs.List.{All}
use Rattle.scq_frames.specs.Exports.{Part}
use Rattle.scq_frames.proofs.BatchLemmas.{of-any, of-one}
use Rattle.scq_frames.proofs.batch.Batch.is_of.Goals as goal

pub returns-then-is_empty : goal.returns-then-is_empty
returns-then-is_empty c =
    let bytes = c.self.inside.bytes in
    subst (λ (l : List Part). IsTrue c.is_empty.result ↔ All (λ (p : Part). p.file ≡ c.args.file) l) c.self.view_is
    (of-any c.self.inside.file c.args.file bytes.len bytes.items c.is_empty.result c.self.invariant c.if-is_empty.true c.is_empty.ensures (omega (arith, bytes.ok.0)))

pub returns-else-is_empty : goal.returns-else-is_empty
returns-else-is_empty c =
    let bytes = c.self.inside.bytes in
    subst (λ (l : List Part). IsTrue (nat_eq c.self.inside.file c.args.file) ↔ All (λ (p : Part). p.file ≡ c.args.file) l) c.self.view_is
    (of-one c.self.inside.file c.args.file bytes.len bytes.items c.is_empty.result c.self.invariant c.if-is_empty.false c.is_empty.ensures (omega (arith, bytes.ok.0)))
