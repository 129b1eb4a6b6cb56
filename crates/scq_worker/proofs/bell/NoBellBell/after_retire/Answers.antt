use Rattle.std.proofs.Common.{sym, zero}
use Rattle.scq_worker.proofs.Rung.{nobody-more}
use Rattle.scq_worker.proofs.bell.NoBellBell.after_retire.Goals as goal

pub returns-clause-rung : goal.returns-clause-rung
returns-clause-rung g c = sym (nobody-more zero c.args._workers)
