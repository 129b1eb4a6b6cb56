use Rattle.std.specs.Prelude.{IsTrue, true}
use Rattle.scq_band.specs.Exports.{HoldsLifted}
use Rattle.scq_band.specs.Standing.{Standing}
use Rattle.scq_band.proofs.Holes.{all_where}
use Rattle.scq_band.proofs.band.Band.close_lifted.Goals as goal

pub close_by-requires-clause-holes : goal.close_by-requires-clause-holes
close_by-requires-clause-holes g c κs within =
    all_where (λ (s : Standing g.row.B.Denot). HoldsLifted s) (λ (s : Standing g.row.B.Denot). IsTrue true → HoldsLifted s) c.args.seats.items
    (λ s lifted yes-it-is. lifted) c.requires.lifted
