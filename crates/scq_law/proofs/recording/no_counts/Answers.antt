use Rattle.std.proofs.Common.{arith}
use Rattle.std.proofs.lemmas.Grind.{common_steps}
use Rattle.scq_law.proofs.recording.no_counts.Goals as goal

pub returns : goal.returns
returns c = record { size = grind (arith, common_steps); each = grind (arith, common_steps) }
