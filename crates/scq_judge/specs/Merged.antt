-- The events of all files in the order of their stamps
use Rattle.std.specs.Prelude.{◌≡◌, ℕ, ◌+◌, ◌-◌, ◌<◌, List, length, map, slice_index_or}
use Rattle.std.specs.List.Sorted.{IsPermutation}
use Rattle.scq_hist.specs.declared.events.Event.{Event}
use Rattle.scq_judge.specs.declared.recorded.Place.{Place}
use Rattle.scq_judge.specs.declared.recorded.Stamped.{Stamped}

-- the stamps of the first n events rise
pub record RiseBelow (merged : List Stamped) (n : ℕ) : Type 0 where
  pub rises : (i : ℕ) (d : Stamped) → i + 1 < n
      → (slice_index_or merged i d).stamp < (slice_index_or merged (i + 1) d).stamp

-- the same events, each once, in the order of their stamps, which are all different
pub record AreMergedByStamp (events merged : List Stamped) : Type 0 where
  pub same : IsPermutation events merged
  pub rise : RiseBelow merged (length merged)

-- these are the merged events, and their places
pub record IsMergeOf (stamped : List Stamped) (events : List Event)
    (places : List Place) : Type 0 where
  pub merged : List Stamped
  pub is_merged : AreMergedByStamp stamped merged
  pub events_are : events ≡ map (λ s. s.event) merged
  pub places_are : places ≡ map (λ s. s.place) merged

-- the event of this place stands behind one with the same stamp, whose place is the other
pub record HasEqual (merged : List Stamped) (place other : Place) : Type 0 where
  pub i : ℕ
  pub within : i + 1 < length merged
  pub equal : (d : Stamped)
      → (slice_index_or merged i d).stamp ≡ (slice_index_or merged (i + 1) d).stamp
  pub stands : (d : Stamped) → (slice_index_or merged (i + 1) d).place ≡ place
  pub before : (d : Stamped) → (slice_index_or merged i d).place ≡ other

-- For private calls: the stamp at position i is above the one before it; and the place there
abbrev pub StampIsAbove : List Stamped → ℕ → Type 0
StampIsAbove merged i =
    (d : Stamped) → (slice_index_or merged (i - 1) d).stamp < (slice_index_or merged i d).stamp

abbrev pub IsPlaceAt : List Stamped → ℕ → Place → Type 0
IsPlaceAt merged i place = (d : Stamped) → (slice_index_or merged i d).place ≡ place

-- the event of this place has the stamp of another, whose place is the other: in some order of all
-- events they stand side by side
pub record HasStampOfAnother (events : List Stamped) (place other : Place) : Type 0 where
  pub merged : List Stamped
  pub same : IsPermutation events merged
  pub equal : HasEqual merged place other
