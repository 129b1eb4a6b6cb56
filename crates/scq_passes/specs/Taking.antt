-- What taking from topics makes of a pass, one take or all until a topic is empty.
use Rattle.std.specs.Prelude.{◌≡◌, ℕ, suc, ◌<◌}
use Rattle.scq_queue.specs.Exports.{PassStanding, known_on}
use Rattle.scq_passes.specs.Leaving.{EndsAtEmpty, MetTopicEmpty}
use Rattle.scq_passes.specs.Waiting.{TookInVain, TookMore}

module _ {B : Type 0} where
  -- it took something, of whatever topic, and the head that it knows of this one rose, from below
  -- the limit
  pub record HasTakenFrom (limit topic : ℕ) (old new : PassStanding B) : Type 0 where
    pub rises : (known_on topic old).head < (known_on topic new).head
    pub below : (known_on topic old).head < limit
    pub more : TookMore old new

  -- it took in vain just once: of this topic, at its end
  pub record HasEmptied (topic : ℕ) (old new : PassStanding B) : Type 0 where
    pub past : (known_on topic new).finished < (known_on topic new).head
    pub found : MetTopicEmpty topic old new
    pub vain : TookInVain 1 old new
    pub last : EndsAtEmpty topic new

  -- it found each of so many topics empty once, the last at its end, and no other
  pub record HasEmptiedAll (topics : ℕ) (old new : PassStanding B) : Type 0 where
    pub past : (t : ℕ) → t < topics → (known_on t new).finished < (known_on t new).head
    pub found : (t : ℕ) → t < topics → MetTopicEmpty t old new
    pub vain : TookInVain topics old new
    pub last : (t : ℕ) → suc t ≡ topics → EndsAtEmpty t new
