use Rattle.std.specs.Prelude.{IsTrue, false}
use Rattle.scq_band.specs.Exports.{HoldsLifted}
use Rattle.scq_band.specs.Standing.{Standing}
use Rattle.scq_band.proofs.Holes.{all_never}
use Rattle.scq_band.proofs.band.Band.close.Goals as goal

pub close_by-requires-clause-holes : goal.close_by-requires-clause-holes
close_by-requires-clause-holes g c κs within =
    all_never (λ (s : Standing g.row.B.Denot). IsTrue false → HoldsLifted s) c.args.seats.items (λ s never. absurd (cc))
