use Rattle.std.proofs.Common.{◌≡◌, ℕ, map, vec_len, sum_by, All}
use Rattle.std.specs.Prelude.{IsTrue}
use Rattle.scq_law.specs.Exports.{times}
use Rattle.scq_band.specs.Standing.{Standing}
use Rattle.scq_band.specs.Exports.{identity_of, indices_of, lifted_of, AllOutGiven, OutOrHome, SeatsAreGathered, HoldsLifted}
use Rattle.scq_band.proofs.closing.gather.Given as goal

abbrev pub invariant-loop-seat : goal.invariant-loop-seat
invariant-loop-seat g l =
    (l.first.table_id ≡ l.words.table_id)
    × All (λ (s : Standing g.row.B.Denot). s.band ≡ identity_of l.words.table_id l.words.key) l.seats.items
    × ((i : ℕ) → times i (indices_of (map g.T.Lifted.pair l.out.items)) ≡ sum_by (λ (s : Standing g.row.B.Denot). times i (lifted_of s.hand)) l.seats.items)
    × AllOutGiven g.B.Buffer.IsSameBuffer l.words.key.given.value.items (map g.T.Lifted.pair l.out.items)
    × SeatsAreGathered g.B.Buffer.contents l.words.key.setup.rings l.fn.seats.items l.seats.items l.first.me.0.known l.first.me.0.seen
    × OutOrHome g.B.Buffer.contents (map g.T.Lifted.pair l.fn.out.items) (map g.T.Lifted.pair l.out.items) l.first.me.0.known.seats
    × All (λ (s : Standing g.row.B.Denot). IsTrue g.L.Looks.all → HoldsLifted s) l.seats.items

abbrev pub decreases-loop-seat : goal.decreases-loop-seat
decreases-loop-seat g l = vec_len l.seats
