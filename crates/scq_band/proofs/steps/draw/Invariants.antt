use Rattle.scq_band.specs.Exports.{known_me, draw_turn}
use Rattle.scq_band.proofs.Operations.{Tells}
use Rattle.scq_band.proofs.steps.draw.Given as goal

abbrev pub ghosts-add_told : goal.ghosts-add_told
ghosts-add_told g a =
    record {
      tells =
          Tells g.B.Buffer.contents g.B.Buffer.IsSameBuffer a.words.now.key
          (draw_turn g.B.Buffer.contents a.words.now.key.setup a.word (known_me a.token.now.me));
    }
