-- What the parts of a turn do, and what its arithmetic stands on.
use Rattle.std.specs.Prelude.{ℕ, ◌≡◌, ◌⊎◌, ◌+◌, ◌^◌, ◌<◌, ◌==◌, Bool, true, false, nat_lt, nat_le}
use Rattle.std.specs.Prelude.{List, [], ◌∷◌, ◌++◌, Option, Some, None, IsSome}
use Rattle.scq_word.specs.declared.setup.Setup.{Setup}
use Rattle.scq_word.specs.Exports.{n_of, IsIndexOrMark}
use Rattle.scq_core.specs.declared.ended.Ended.{Ended}
use Rattle.scq_core.specs.declared.ended.Ended.TheVariants.{Got}
use Rattle.scq_core.specs.declared.phase.Phase.{Phase}
use Rattle.scq_core.specs.declared.phase.Phase.TheVariants.{Idle, AtE1, AtE2, AtE3, AtE4, AtE5}
use Rattle.scq_core.specs.declared.phase.Phase.TheVariants.{AtE6, AtD1, AtD2, AtD3, AtD4, AtD5}
use Rattle.scq_core.specs.declared.phase.Phase.TheVariants.{AtD6, AtD7, AtD8, AtD9, AtD10}
use Rattle.scq_core.specs.declared.step.Step.{Step}
use Rattle.scq_core.specs.declared.step.Step.TheVariants.{E1, E4, D1, D4}
use Rattle.scq_core.specs.declared.next.Next.{Next}
use Rattle.scq_core.specs.declared.next.Next.TheVariants.{Goes, Ends, Spends, Places, Takes}
use Rattle.scq_core.specs.Machine.{SeatPart, Machine}
use Rattle.scq_core.specs.Stances.{stance_of, get_ring}
use Rattle.scq_core.specs.Table.{step_of, zero_level, reset_level, ring_of, goes_on, ends, spends}
use Rattle.scq_core.specs.Table.{hand_without}

-- the ring of the call that a seat is in the middle of
abbrev pub ring_under_way : Phase → Option ℕ
ring_under_way Idle = None
ring_under_way phase = Some (ring_of phase)

-- the turn of a step that begins a call
abbrev pub started : Step → Option Phase
started (E1 r i w) = Some (AtE1 r i w 0)
started (D1 r) = Some (AtD1 r)
started step = None

-- the content that a turn needs a copy of: a put's own where it may place it, and the one beside
-- the entry where it is taken
abbrev pub copied : Phase → List ℕ → List ℕ
copied (AtE4 r i w t e) beside = w
copied (AtD4 r h) beside = beside
copied turn beside = []

-- a turn that needs such a copy
abbrev pub needs_copy : Phase → Bool
needs_copy (AtE4 r i w t e) = true
needs_copy (AtD4 r h) = true
needs_copy turn = false

-- a step that copies a content: the one that begins a put, its exchange, and the one that takes an
-- index
abbrev pub copies_content : Step → Bool
copies_content (E1 r i w) = true
copies_content E4 = true
copies_content D4 = true
copies_content step = false

-- a step takes memory only where it copies a content, or where its seat is idle afterwards, since
-- its call has ended
abbrev pub TakesMemory : Setup → Machine → ℕ → Step → Type 0
TakesMemory c m seat step =
    (copies_content step ≡ true)
    ⊎ ((later : Machine) → step_of c m seat step ≡ Some later → (later.part seat).phase ≡ Idle)

-- whether a turn ends its call where it found the word x
abbrev pub ends_call : Setup → Phase → ℕ → Bool
ends_call c (AtE1 r i w l) x = nat_le c.limit x
ends_call c (AtE5 r i w t) x = x == reset_level c
ends_call c (AtE6 r i w t) x = true
ends_call c (AtD1 r) x = nat_lt x zero_level
ends_call c (AtD2 r l) x = nat_le c.limit x
ends_call c (AtD4 r h) x = true
ends_call c (AtD10 r h true) x = true
ends_call c (AtD10 r h false) x = nat_le x zero_level
ends_call c turn x = false

-- whether the call has ended
abbrev pub has_ended : Next → Bool
has_ended (Goes phase) = false
has_ended (Ends ended) = true
has_ended (Spends r t is_put) = true
has_ended (Places r i w t laid) = false
has_ended (Takes r h i w) = true

-- a seat's part of these fields
abbrev pub seat_part : Phase → List ℕ → Option ℕ → List Ended → SeatPart
seat_part phase hand spent calls =
    record { phase = phase; hand = hand; spent = spent; calls = calls }

-- a seat's part afterwards
abbrev pub part_after : Next → SeatPart → SeatPart
part_after (Goes phase) p = goes_on phase p
part_after (Ends ended) p = ends ended p
part_after (Spends r t is_put) p = spends r t is_put p
part_after (Places r i w t laid) p =
    goes_on (AtE5 r i w t) (record p { hand = hand_without i p.hand })
part_after (Takes r h i w) p = ends (Got r h w) (record p { hand = p.hand ++ i ∷ [] })

-- the content that is laid beside the entry
abbrev pub laid_by : Next → Option (List ℕ)
laid_by (Places r i w t laid) = Some laid
laid_by next = None

-- a turn of a dequeue
abbrev pub IsOfGet : Phase → Type 0
IsOfGet turn = IsSome (get_ring (stance_of turn))

-- a turn of a dequeue that has given its ticket up
abbrev pub HasGivenUp : Phase → Type 0
HasGivenUp (AtD6 r h) = Unit {0}
HasGivenUp (AtD7 r h from to) = Unit {0}
HasGivenUp (AtD8 r h from) = Unit {0}
HasGivenUp (AtD9 r h from to) = Unit {0}
HasGivenUp (AtD10 r h leaving) = Unit {0}
HasGivenUp turn = ⊥

-- what a turn's arithmetic stands on, where it found the word x: counters have room, tickets are
-- below the limit, an entry has an index of the ring or none, and Threshold is not yet at the
-- bottom
abbrev pub IsReady : Setup → Phase → ℕ → Type 0
IsReady c Idle x = ⊥
IsReady c (AtE1 r i w l) x = x + 1 < 2 ^ 64
IsReady c (AtE2 r i w t l) x = (t < c.limit) × IsIndexOrMark c.order x
IsReady c (AtE3 r i w t e) x = t < c.limit
IsReady c (AtE4 r i w t e) x = (t < c.limit) × (i < n_of c.order) × IsIndexOrMark c.order x
IsReady c (AtE5 r i w t) x = Unit {0}
IsReady c (AtE6 r i w t) x = Unit {0}
IsReady c (AtD1 r) x = Unit {0}
IsReady c (AtD2 r l) x = x + 1 < 2 ^ 64
IsReady c (AtD3 r h l) x = (h < c.limit) × IsIndexOrMark c.order x
IsReady c (AtD4 r h) x = IsIndexOrMark c.order x
IsReady c (AtD5 r h e) x = (h < c.limit) × IsIndexOrMark c.order x
IsReady c (AtD6 r h) x = h < c.limit
IsReady c (AtD7 r h from to) x = Unit {0}
IsReady c (AtD8 r h from) x = Unit {0}
IsReady c (AtD9 r h from to) x = Unit {0}
IsReady c (AtD10 r h leaving) x = (h < c.limit) × (0 < x)
