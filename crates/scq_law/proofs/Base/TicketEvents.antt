-- What a turn is to the books: one event, by which each part of the state and each ticket changes. Later laws look at
-- events and at stances, and never at the step table.
use Rattle.std.specs.Prelude.{ℕ, ◌+◌, ◌-◌, Bool, true, false, ◌==◌, ◌&&◌, nat_le, nat_lt, if◌then◌else◌, List, [], ◌∷◌, ◌++◌, Option, Some}
use Rattle.scq_word.specs.declared.setup.Setup.{Setup}
use Rattle.scq_word.specs.Exports.{index_in, cycle_in, is_none_in}
use Rattle.scq_core.specs.declared.ended.Ended.{Ended}
use Rattle.scq_core.specs.declared.ended.Ended.TheVariants.{Done, Got, Nothing, Spent}
use Rattle.scq_core.specs.declared.phase.Phase.{Phase}
use Rattle.scq_core.specs.declared.phase.Phase.TheVariants.{Idle, AtE1, AtE2, AtE3, AtE4, AtE5, AtE6, AtD1, AtD2, AtD3, AtD4, AtD5, AtD6, AtD7, AtD8, AtD9, AtD10}
use Rattle.scq_core.specs.Exports.{Stance, resting, drawing, putting, landed, seeking, trying, gave_up, updated, zero_level, reset_level, ring_slots}
use Rattle.scq_core.specs.Exports.{cycle, hand_without}
use Rattle.scq_law.specs.Exports.{call_of}
use Rattle.scq_law.proofs.Base.Ghosts.{Ghost, pending, failed, placed, opened, dead, took, with_put, with_get}

-- calm: nothing but what the seat is in the middle of. The others: an enqueue draws a ticket, fails with it, places its
-- index, ends; a dequeue begins, ends at once, draws a ticket, gives it up, sees that nothing is behind it, lifts Tail,
-- takes, goes on with less Threshold, ends with nothing; a ticket at or past the limit is drawn
pub data TicketEvent : Type 0 where
  calm : TicketEvent
  drew : (ring index : ℕ) (content : List ℕ) (ticket : ℕ) → TicketEvent
  fell : (ring index : ℕ) (content : List ℕ) (ticket found : ℕ) → TicketEvent
  laid : (ring index : ℕ) (content : List ℕ) (ticket : ℕ) → TicketEvent
  finished : (ring index : ℕ) (content : List ℕ) (ticket : ℕ) → TicketEvent
  entered : (ring : ℕ) → TicketEvent
  refused : (ring : ℕ) → TicketEvent
  began : (ring ticket : ℕ) → TicketEvent
  died : (ring ticket : ℕ) → TicketEvent
  saw_end : (ring ticket : ℕ) → TicketEvent
  lifted : (ring ticket to : ℕ) → TicketEvent
  taken : (ring ticket index : ℕ) (content : List ℕ) → TicketEvent
  lowered : (ring ticket : ℕ) → TicketEvent
  emptied : (ring ticket : ℕ) → TicketEvent
  overran : (ring ticket : ℕ) (is_put : Bool) → TicketEvent

-- the event of a turn that found the word x, and beside it the content y
abbrev pub event : Setup → Phase → ℕ → List ℕ → TicketEvent
event c Idle x y = calm
event c (AtE1 r i w l) x y = if nat_le c.limit x then overran r x true else drew r i w x
event c (AtE2 r i w t l) x y =
    if nat_lt (cycle_in (ring_slots c) x) (cycle c t) && is_none_in (ring_slots c) x then calm else fell r i w t (index_in (ring_slots c) x)
event c (AtE3 r i w t e) x y = if nat_le x t then calm else fell r i w t (index_in (ring_slots c) e)
event c (AtE4 r i w t e) x y = if x == e then laid r i w t else calm
event c (AtE5 r i w t) x y = if x == reset_level c then finished r i w t else calm
event c (AtE6 r i w t) x y = finished r i w t
event c (AtD1 r) x y = if nat_lt x zero_level then refused r else entered r
event c (AtD2 r l) x y = if nat_le c.limit x then overran r x false else began r x
event c (AtD3 r h l) x y =
    if cycle_in (ring_slots c) x == cycle c h
    then calm
    else (if nat_lt (cycle_in (ring_slots c) x) (cycle c h) then calm else died r h)
event c (AtD4 r h) x y = taken r h (index_in (ring_slots c) x) y
event c (AtD5 r h e) x y = if x == e then died r h else calm
event c (AtD6 r h) x y = if nat_le x (h + 1) then saw_end r h else calm
event c (AtD7 r h from to) x y = if x == from then lifted r h to else calm
event c (AtD8 r h from) x y = calm
event c (AtD9 r h from to) x y = calm
event c (AtD10 r h true) x y = emptied r h
event c (AtD10 r h false) x y = if nat_le x zero_level then emptied r h else lowered r h

-- what the event says of the tickets, at this step of the run, of this seat whose record has so many calls
abbrev pub ghost_by : TicketEvent → ℕ → ℕ → ℕ → Ghost → Ghost
ghost_by (drew r i w t) time k number g = with_put g r t (pending k i)
ghost_by (fell r i w t found) time k number g = with_put g r t (failed time i found)
ghost_by (laid r i w t) time k number g = with_put g r t (placed i w (call_of k number))
ghost_by (began r h) time k number g = with_get g r h (opened k)
ghost_by (died r h) time k number g = with_get g r h dead
ghost_by (taken r h i w) time k number g = with_get g r h (took k number)
ghost_by _ time k number g = g

-- the seat's stance afterwards
abbrev pub stance_by : TicketEvent → Stance → Stance
stance_by calm s = s
stance_by (drew r i w t) s = putting r i w t
stance_by (fell r i w t found) s = drawing r i w
stance_by (laid r i w t) s = landed r i w t
stance_by (finished r i w t) s = resting
stance_by (entered r) s = seeking r
stance_by (refused r) s = resting
stance_by (began r h) s = trying r h
stance_by (died r h) s = gave_up r h false
stance_by (saw_end r h) s = gave_up r h true
stance_by (lifted r h to) s = gave_up r h true
stance_by (taken r h i w) s = resting
stance_by (lowered r h) s = seeking r
stance_by (emptied r h) s = resting
stance_by (overran r t is_put) s = resting

-- its hand
abbrev pub hand_by : TicketEvent → List ℕ → List ℕ
hand_by (laid r i w t) hand = hand_without i hand
hand_by (taken r h i w) hand = hand ++ i ∷ []
hand_by _ hand = hand

-- what its record grows by: the call that ends
abbrev pub ended_by : TicketEvent → List Ended
ended_by (finished r i w t) = Done r t w ∷ []
ended_by (refused r) = Nothing r ∷ []
ended_by (taken r h i w) = Got r h w ∷ []
ended_by (emptied r h) = Nothing r ∷ []
ended_by (overran r t is_put) = Spent r t is_put ∷ []
ended_by _ = []

-- the ticket that it keeps
abbrev pub kept_by : TicketEvent → Option ℕ → Option ℕ
kept_by (overran r t is_put) kept = Some t
kept_by _ kept = kept

-- Tail, Head and Threshold of the rings
abbrev pub tail_by : TicketEvent → (ℕ → ℕ) → ℕ → ℕ
tail_by (drew r i w t) tail = updated tail r (t + 1)
tail_by (lifted r h to) tail = updated tail r to
tail_by (overran r t true) tail = updated tail r (t + 1)
tail_by _ tail = tail

abbrev pub head_by : TicketEvent → (ℕ → ℕ) → ℕ → ℕ
head_by (began r h) head = updated head r (h + 1)
head_by (overran r t false) head = updated head r (t + 1)
head_by _ head = head

abbrev pub threshold_by : Setup → TicketEvent → (ℕ → ℕ) → ℕ → ℕ
threshold_by c (finished r i w t) threshold = updated threshold r (reset_level c)
threshold_by c (lowered r h) threshold = updated threshold r (threshold r - 1)
threshold_by c (emptied r h) threshold = updated threshold r (threshold r - 1)
threshold_by c _ threshold = threshold
