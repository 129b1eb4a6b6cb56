use Rattle.scq_band.proofs.Guessing.{TellsOfGuess}
use Rattle.scq_band.proofs.steps.place_or_load.Given as goal

abbrev pub ghosts-exchange_told : goal.ghosts-exchange_told
ghosts-exchange_told g a =
    record {
      tells = TellsOfGuess g.B.Buffer.contents g.B.Buffer.IsSameBuffer a.words.now.key a.old a.token.now.me;
    }
