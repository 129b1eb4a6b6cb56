use Rattle.scq_law.proofs.Replays.RunLaws.{later_rises}
use Rattle.scq_law.proofs.runs.ranks_and_counters_rise.Goals as goal

pub returns : goal.returns
returns c = λ setup m n reach later. let h = later_rises setup m n reach later in (h.1, h.2)
