use Rattle.std.proofs.Common.{arith, sym}
use Rattle.scq_band.proofs.EntryOffsets.{in_one_column, in_eight_columns}
use Rattle.scq_band.proofs.layout.column_bits.Goals as goal

pub returns-then-setup-le-LARGEST_LINED_ORDER-clause-bits : goal.returns-then-setup-le-LARGEST_LINED_ORDER-clause-bits
returns-then-setup-le-LARGEST_LINED_ORDER-clause-bits c = sym (in_one_column c.args.setup.now.order c.if-setup-le-LARGEST_LINED_ORDER.true)

pub returns-else-setup-le-LARGEST_LINED_ORDER-clause-bits : goal.returns-else-setup-le-LARGEST_LINED_ORDER-clause-bits
returns-else-setup-le-LARGEST_LINED_ORDER-clause-bits c =
    let columns = in_eight_columns c.args.setup.now.order c.if-setup-le-LARGEST_LINED_ORDER.false in omega (arith, columns)
