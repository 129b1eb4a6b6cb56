use Rattle.std.proofs.Common.{refl}
use Rattle.scq_band.specs.Exports.{my_phase}
use Rattle.scq_band.proofs.Guessing.{guesses}
use Rattle.scq_band.proofs.steps.place_or_load.Goals as goal

pub exchange_told-requires-clause-allows : goal.exchange_told-requires-clause-allows
exchange_told-requires-clause-allows g c κs within =
    guesses _ _ c.args.words.now.key.setup _ _ _ (my_phase c.args.token.now.me.0.known) _ c.args.guess c.args.new refl c.requires.alone c.requires.kind
    c.requires.carries c.requires.word
