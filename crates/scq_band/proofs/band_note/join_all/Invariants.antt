use Rattle.std.proofs.Common.{◌≡◌, ◌-◌, ◌≤◌}
use Rattle.std.specs.Prelude.{vec_len}
use Rattle.scq_band.proofs.Joining.{joined_below}
use Rattle.scq_band.proofs.band_note.join_all.Given as goal

abbrev pub invariant-loop-ring : goal.invariant-loop-ring
invariant-loop-ring l =
    (l.numbers.items ≡ joined_below l.ring l.fn.numbers.items l.other) × (vec_len l.numbers ≡ vec_len l.fn.numbers) × (l.ring ≤ vec_len l.numbers)

abbrev pub decreases-loop-ring : goal.decreases-loop-ring
decreases-loop-ring l = vec_len l.numbers - l.ring
