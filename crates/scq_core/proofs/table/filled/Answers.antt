use Rattle.scq_core.proofs.table.filled.Goals as goal

pub pack-requires-clause-cycle : goal.pack-requires-clause-cycle
pack-requires-clause-cycle c = rw (c.cycle_of.ensures) c.requires.fits
