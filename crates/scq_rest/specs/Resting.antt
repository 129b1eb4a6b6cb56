-- Workers that may rest, before and after their work: the room for their threads, and their stands.
use Rattle.std.specs.Prelude.{◌≡◌, ℕ, ◌≤◌, List, [], length, vec_capacity, Some, None, slice_get}
use Rattle.atomic_table.specs.Seated.{TableId}
use Rattle.scq_park.specs.Exports.{Post, AreAll, no_wakes}
use Rattle.scq_block.specs.declared.frame.Frame.{Frame}
use Rattle.scq_queue.specs.Exports.{PassStanding}
use Rattle.scq_worker.specs.Exports.{HasRung}
use Rattle.scq_rest.specs.Waiting.{EachWaited}
use Rattle.scq_rest.specs.declared.resting.RestingRoom.{RestingRoom}

-- so many flags, and empty lists with room for so many workers
pub record HasRoom {S : Type 0} (workers : ℕ) (b : RestingRoom S) : Type 0 where
  pub flags : length b.flags.items ≡ workers
  pub none : (b.given.items ≡ []) × (b.places.items ≡ []) × (b.ends.items ≡ [])
  pub all : (workers ≤ vec_capacity b.given) × (workers ≤ vec_capacity b.places)
      × (workers ≤ vec_capacity b.ends)

-- each worker that met no ticket past the limit has woken the others as it should
abbrev pub EachRang : List TableId → List Post → List (PassStanding Frame) → Type 0
EachRang crew stands passes =
    (w : ℕ) (s : Post) (p : PassStanding Frame) → slice_get stands w ≡ Some s
    → slice_get passes w ≡ Some p → p.spent ≡ None
    → HasRung w (length crew) p (no_wakes crew) s.wakes

-- the stands are all of the crew, in order, and each worker has waited as it should, and has woken
-- the others
pub record AreSettled (crew : List TableId) (topics behind : ℕ) (stands : List Post)
    (passes : List (PassStanding Frame)) : Type 0 where
  pub all : AreAll crew stands
  pub many : length stands ≡ length passes
  pub waited : EachWaited topics behind stands passes
  pub rang : EachRang crew stands passes
