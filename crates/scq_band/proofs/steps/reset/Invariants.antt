use Rattle.scq_band.proofs.Operations.{TellsOfPhase}
use Rattle.scq_band.proofs.steps.reset.Given as goal

abbrev pub ghosts-store_told : goal.ghosts-store_told
ghosts-store_told g a = record { tells = TellsOfPhase g.B.Buffer.contents g.B.Buffer.IsSameBuffer a.words.now.key a.token.now.me }
