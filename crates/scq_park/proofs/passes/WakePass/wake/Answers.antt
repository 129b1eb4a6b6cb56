use Rattle.std.proofs.Common.{◌<◌, sym, subst}
use Rattle.scq_park.specs.Exports.{ParkerDeeds}
use Rattle.scq_park.proofs.Keeps.{wakes}
use Rattle.scq_park.proofs.passes.WakePass.wake.Goals as goal

pub unpark_as-requires-clause-rule : goal.unpark_as-requires-clause-rule
unpark_as-requires-clause-rule c =
    wakes c.self.inside.pass.id c.self.inside.pass.me.0 (subst (λ (t : ParkerDeeds). 0 < t.deeds.parts) (sym c.self.view_is) c.requires.parts)
