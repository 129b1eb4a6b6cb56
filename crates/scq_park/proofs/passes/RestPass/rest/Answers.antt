use Rattle.std.proofs.Common.{◌<◌, sym, subst}
use Rattle.scq_park.specs.Exports.{ParkerDeeds}
use Rattle.scq_park.proofs.Keeps.{rests}
use Rattle.scq_park.proofs.passes.RestPass.rest.Goals as goal

pub park_as-requires-clause-rule : goal.park_as-requires-clause-rule
park_as-requires-clause-rule g c =
    rests c.self.inside.pass.id c.self.inside.pass.me.0 (subst (λ (t : ParkerDeeds). 0 < t.deeds.parts) (sym c.self.view_is) c.requires.parts)
