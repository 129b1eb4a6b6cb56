use Rattle.scq_band.proofs.Operations.{TellsOfPhase}
use Rattle.scq_band.proofs.steps.count_down.Given as goal

abbrev pub ghosts-subtract_told : goal.ghosts-subtract_told
ghosts-subtract_told g a = record { tells = TellsOfPhase g.B.Buffer.contents g.B.Buffer.IsSameBuffer a.words.now.key a.token.now.me }
