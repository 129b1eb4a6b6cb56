use Rattle.scq_check.proofs.CallLemmas.{own_within, call_there, no_own_end}
use Rattle.scq_check.proofs.tables.Tables.call_of.Goals as goal

pub bounds-events-start : goal.bounds-events-start
bounds-events-start c = own_within _ _ _ c.requires.lawful c.requires.within c.start-start.ensures

pub returns : goal.returns
returns c = call_there _ _ _ _ _ _ c.requires.lawful c.requires.within c.start-start.ensures c.index-events-start.is c.in-Start.is

pub unreachable-requires : goal.unreachable-requires
unreachable-requires c = no_own_end _ _ _ _ _ _ c.requires.lawful c.requires.within c.start-start.ensures c.index-events-start.is c.in-End.is
