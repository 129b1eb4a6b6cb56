use Rattle.scq_band.proofs.RunShown.{shows_run}
use Rattle.scq_band.proofs.marks.find.Goals as goal

pub load_told-requires-clause-allows : goal.load_told-requires-clause-allows
load_told-requires-clause-allows g c κs within =
    shows_run _ _ _ _ _ _
