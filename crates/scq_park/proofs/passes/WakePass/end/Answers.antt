use Rattle.std.proofs.Common.{ap, arith}
use Rattle.scq_park.specs.Exports.{Deeds, ParkerDeeds}
use Rattle.scq_park.proofs.Keeps.{settles}
use Rattle.scq_park.proofs.passes.WakePass.end.Goals as goal

pub unpark_as-requires-clause-rule : goal.unpark_as-requires-clause-rule
unpark_as-requires-clause-rule c =
    let joined = ap (λ (v : Deeds). v.parts) c.take_in.ensures.joined in
    let mine = ap (λ (t : ParkerDeeds). t.deeds.parts) c.self.view_is in
    let its = ap (λ (t : ParkerDeeds). t.deeds.parts) c.own.view_is in
    let all = c.requires.all in
    let one = ap (λ (v : Deeds). v.parts) c.requires.one in
    settles c.take_in.new.pass.id c.take_in.new.pass.me.0 (omega arith)
