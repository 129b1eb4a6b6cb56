use Rattle.std.proofs.Common.{◌≡◌, ◌∙◌, sym, [], ◌∷◌}
use Rattle.scq_band.specs.Exports.{my}
use Rattle.scq_band.proofs.badges.learn.Goals as goal

pub take_in-requires-clause-own : goal.take_in-requires-clause-own
take_in-requires-clause-own g c κs within = (c.requires.own.0, c.into_seat.ensures.0 ∙ c.requires.own.1)

pub take_in-requires-clause-stands : goal.take_in-requires-clause-stands
take_in-requires-clause-stands g c κs within none =
    let never : my c.args.token.now.me.0.known ∷ [] ≡ [] = sym c.requires.alone.seats ∙ none in
    absurd (cc)
