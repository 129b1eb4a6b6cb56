use Rattle.scq_band.proofs.Operations.{TellsOfPhase}
use Rattle.scq_band.proofs.steps.consume.Given as goal

abbrev pub ghosts-or_told : goal.ghosts-or_told
ghosts-or_told g a = record { tells = TellsOfPhase g.B.Buffer.contents g.B.Buffer.IsSameBuffer a.words.now.key a.token.now.me }
