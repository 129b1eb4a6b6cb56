use Rattle.scq_band.proofs.Operations.{TellsOfPhase}
use Rattle.scq_band.proofs.steps.exchange.Given as goal

abbrev pub ghosts-exchange_told : goal.ghosts-exchange_told
ghosts-exchange_told g a = record { tells = TellsOfPhase g.B.Buffer.contents g.B.Buffer.IsSameBuffer a.words.now.key a.token.now.me }
