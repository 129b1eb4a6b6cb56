use Rattle.std.proofs.Common.{arith}
use Rattle.scq_core.proofs.Entries.{zero_level_is, reset_small}
use Rattle.scq_core.proofs.table.reset_level.Goals as goal

pub overflow_add-result : goal.overflow_add-result
overflow_add-result c = omega (arith, c.reset_value.ensures, reset_small c.args.setup.now)

pub returns : goal.returns
returns c = omega (arith, zero_level_is, c.reset_value.ensures)
