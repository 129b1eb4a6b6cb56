use Rattle.scq_band.proofs.RunShown.{retires_run}
use Rattle.scq_band.proofs.gate.retire.Goals as goal

pub subtract_told-requires-clause-allows : goal.subtract_told-requires-clause-allows
subtract_told-requires-clause-allows g c κs within =
    retires_run _ _ _ _ _ c.requires.alone c.requires.stays
