-- A hand in which the buffer of an index was lifted, or laid.
use Rattle.std.proofs.Common.{◌≡◌, ℕ, ◌∙◌, ap}
use Rattle.std.specs.Prelude.{Some, Option}
use Rattle.scq_band.specs.Exports.{in_hand, with_buffer}
use Rattle.scq_band.specs.Standing.{Standing}
use Rattle.scq_band.proofs.Putting.{laid_there}

pub now_there : {B : Type 0} (i : ℕ) (old new : Option B) (s u : Standing B) → in_hand s.hand i ≡ Some old
    → u ≡ record s { hand = with_buffer i new s.hand } → in_hand u.hand i ≡ Some new
now_there {B} i old new s u there is = ap (λ (z : Standing B). in_hand z.hand i) is ∙ laid_there s.hand i old new there
