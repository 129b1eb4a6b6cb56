use Rattle.scq_hist.proofs.NamesLemmas.{read}
use Rattle.scq_check.proofs.EndingLemmas.{no_ending, ending_there}
use Rattle.scq_check.proofs.endings.ends_so.Goals as goal

pub returns-in-Start : goal.returns-in-Start
returns-in-Start c = no_ending _ _ _ _ _ (read _ _ _ _ c.requires.within c.index-events-e.is c.in-Start.is)

pub returns-in-End : goal.returns-in-End
returns-in-End c = ending_there _ _ _ _ _ _ _ _ c.call_of.ensures (read _ _ _ _ c.requires.within c.index-events-e.is c.in-End.is) c.ends_as.ensures
