use Rattle.std.proofs.Common.{◌≡◌, ◌+◌, ◌≤◌, ◌++◌, map}
use Rattle.std.specs.Prelude.{vec_len, vec_capacity, reverse}
use Rattle.scq_queue.specs.Exports.{counts_of, PassStanding, lists_of, was_told, AllFullsStand, seat_of_pass}
use Rattle.scq_queue.proofs.closing.unpack.Given as goal

abbrev pub invariant-loop-pass : goal.invariant-loop-pass
invariant-loop-pass g l =
    (l.seats.items ++ map seat_of_pass (reverse l.passes.items) ≡ map seat_of_pass l.fn.passes.items)
    × (l.counts.items ++ map (λ (p : PassStanding g.row.B.Denot). counts_of (lists_of p)) (reverse l.passes.items)
    ≡ map (λ (p : PassStanding g.row.B.Denot). counts_of (lists_of p)) l.fn.passes.items)
    × (vec_len l.seats + vec_len l.passes ≤ vec_capacity l.seats)
    × (vec_len l.counts + vec_len l.passes ≤ vec_capacity l.counts)
    × (l.saw.items ++ map (λ (p : PassStanding g.row.B.Denot). was_told p.gate) (reverse l.passes.items)
    ≡ map (λ (p : PassStanding g.row.B.Denot). was_told p.gate) l.fn.passes.items)
    × (vec_len l.saw + vec_len l.passes ≤ vec_capacity l.saw)
    × (AllFullsStand (reverse l.passes.items) → AllFullsStand l.fn.passes.items)

abbrev pub decreases-loop-pass : goal.decreases-loop-pass
decreases-loop-pass g l = vec_len l.passes
