use Rattle.scq_band.proofs.RunShown.{looks_run}
use Rattle.scq_band.proofs.gate.read_gate.Goals as goal

pub load_told-requires-clause-allows : goal.load_told-requires-clause-allows
load_told-requires-clause-allows g c κs within =
    looks_run _ _ _ _ _
