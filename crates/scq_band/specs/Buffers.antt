-- When the value of a slot is the buffer that was given for its index, with certain bytes.
use Rattle.std.specs.Prelude.{◌≡◌, ℕ, List, Some, map, slice_get}
use Rattle.scq_band.specs.Slots.{SlotStanding}

-- the buffer in it is the same as the one that was given for index i, and has the bytes w
pub record LiesIn {B : Type 0} (contents : B → List ℕ) (IsSame : B → B
    → Type 0) (given : List B) (i : ℕ) (slot : SlotStanding B) (w : List ℕ) : Type 0 where
  pub first : B
  pub buffer : B
  pub was : slice_get given i ≡ Some first
  pub laid : slot.buffer ≡ Some buffer
  pub same : IsSame first buffer
  pub bytes : contents buffer ≡ w

-- the bytes of the buffers that were given, in order: the contents of the opening puts
abbrev pub opening_of : {B : Type 0} → (B → List ℕ) → List B → List (List ℕ)
opening_of contents given = map contents given
