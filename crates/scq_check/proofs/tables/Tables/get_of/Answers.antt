use Rattle.scq_check.proofs.TableLemmas.{get_there}
use Rattle.scq_check.proofs.tables.Tables.get_of.Goals as goal

pub returns : goal.returns
returns c = (c.in_ok-e.e, get_there _ _ _ _ c.requires.lawful c.in_ok-e.ensures c.start.ensures)
