use Rattle.scq_hist.proofs.NamesLemmas.{read}
use Rattle.scq_judge.proofs.CountLemmas.{busy_after_start, busy_after_end}
use Rattle.scq_judge.proofs.counting.busy_after.Goals as goal

pub returns-in-Start : goal.returns-in-Start
returns-in-Start c = busy_after_start _ _ _ _ _ c.requires.lawful (read _ _ _ _ c.requires.within c.index-events-e.is c.in-Start.is) c.requires.busy

pub returns-in-End : goal.returns-in-End
returns-in-End c = (busy_after_end _ _ _ _ _ c.requires.lawful (read _ _ _ _ c.requires.within c.index-events-e.is c.in-End.is) c.requires.busy).1

pub overflow_sub-result : goal.overflow_sub-result
overflow_sub-result c = (busy_after_end _ _ _ _ _ c.requires.lawful (read _ _ _ _ c.requires.within c.index-events-e.is c.in-End.is) c.requires.busy).0
