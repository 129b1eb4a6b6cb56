use Rattle.std.proofs.Common.{◌≡◌, false, [], ◌+◌, ◌≤◌, ◌++◌, map, All}
use Rattle.std.specs.Prelude.{vec_len, vec_capacity, reverse}
use Rattle.scq_band.specs.Standing.{Standing}
use Rattle.scq_queue.specs.Exports.{was_told, pass_over}
use Rattle.scq_queue.proofs.queue.passes_of.Given as goal

abbrev pub invariant-loop-seat : goal.invariant-loop-seat
invariant-loop-seat g l =
    (l.passes.items ++ map (λ (s : Standing g.row.B.Denot). pass_over s []) (reverse l.seats.items)
    ≡ map (λ (s : Standing g.row.B.Denot). pass_over s []) l.fn.seats.items)
    × All (λ (s : Standing g.row.B.Denot). (s.hand ≡ []) × (s.calls ≡ []) × (was_told s.gate ≡ false)) l.seats.items
    × (vec_len l.passes + vec_len l.seats ≤ vec_capacity l.passes)
    × (vec_capacity l.seats ≡ vec_capacity l.fn.seats)

abbrev pub decreases-loop-seat : goal.decreases-loop-seat
decreases-loop-seat g l = vec_len l.seats
