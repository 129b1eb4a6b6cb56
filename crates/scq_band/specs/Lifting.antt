-- What a dequeue makes of a seat where the buffer that came is lifted.
use Rattle.std.specs.Prelude.{◌≡◌, ℕ, List, Some, None}
use Rattle.scq_band.specs.Standing.{Identity, Standing, SeatHasDequeued, IsAsGiven, in_hand}
use Rattle.scq_band.specs.Standing.{with_buffer}

-- a seat that has got an index, and whose buffer was lifted then: `between` is the seat before that
pub record SeatHasGotLifted {B : Type 0} (contents : B → List ℕ) (IsSame : B → B → Type 0)
    (band : Identity B) (ring place index : ℕ) (buffer : B) (old new : Standing B) : Type 0 where
  pub between : Standing B
  pub got : SeatHasDequeued contents IsSame band ring place index old between
  pub there : in_hand between.hand index ≡ Some (Some buffer)
  pub given : IsAsGiven IsSame band.given index buffer
  pub lifted : new ≡ record between { hand = with_buffer index None between.hand }
