-- There are parts where there are bytes.
use Rattle.std.proofs.Common.{◌≡◌, ◌↔◌, IsTrue, List, [], subst, arith}
use Rattle.scq_frames.specs.Exports.{Part}
use Rattle.scq_frames.proofs.BatchLemmas.{is-none}
use Rattle.scq_frames.proofs.batch.Batch.is_empty.Goals as goal

pub returns : goal.returns
returns c =
    let bytes = c.self.inside.bytes in
    subst (λ (l : List Part). IsTrue c.is_empty.result ↔ (l ≡ [])) c.self.view_is
    (is-none c.self.inside.file bytes.len bytes.items c.is_empty.result c.self.invariant c.is_empty.ensures (omega (arith, bytes.ok.0)))
