use Rattle.std.proofs.Common.{◌≡◌, ℕ, ◌-◌, ◌<◌, ◌≤◌, length, slice_get}
use Rattle.std.specs.Prelude.{Some}
use Rattle.scq_band.proofs.closing.take_out.Given as goal

abbrev pub invariant-loop-at : goal.invariant-loop-at
invariant-loop-at g l =
    (l.out ≡ l.fn.out) × (l.at ≤ length l.out.items)
    × ((k : ℕ) (o : g.row.T.Denot) → k < l.at → slice_get l.out.items k ≡ Some o → (g.T.Lifted.pair o).0 ≡ l.fn.index → ⊥)

abbrev pub decreases-loop-at : goal.decreases-loop-at
decreases-loop-at g l = length l.out.items - l.at
