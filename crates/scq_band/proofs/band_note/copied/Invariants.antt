use Rattle.std.proofs.Common.{◌≡◌, ◌-◌, ◌≤◌, take, length}
use Rattle.std.specs.Prelude.{vec_len}
use Rattle.scq_word.specs.Exports.{most_rings}
use Rattle.scq_band.proofs.band_note.copied.Given as goal

abbrev pub invariant-loop-ring : goal.invariant-loop-ring
invariant-loop-ring l = (take l.ring l.copy ≡ take l.ring l.numbers.items) × (l.ring ≤ vec_len l.numbers) × (length l.copy ≡ most_rings)

abbrev pub decreases-loop-ring : goal.decreases-loop-ring
decreases-loop-ring l = vec_len l.numbers - l.ring
