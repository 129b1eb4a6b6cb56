-- What a seat is in the middle of, as far as laws ask: one table over all phases. Whatever tells
-- phases apart for a law is read off it.
use Rattle.std.specs.Prelude.{ℕ, Bool, true, false, ◌==◌, if◌then◌else◌, List, Option, Some, None}
use Rattle.scq_core.specs.declared.phase.Phase.{Phase}
use Rattle.scq_core.specs.declared.phase.Phase.TheVariants.{Idle, AtE1, AtE2, AtE3, AtE4, AtE5}
use Rattle.scq_core.specs.declared.phase.Phase.TheVariants.{AtE6, AtD1, AtD2, AtD3, AtD4, AtD5}
use Rattle.scq_core.specs.declared.phase.Phase.TheVariants.{AtD6, AtD7, AtD8, AtD9, AtD10}

-- nothing; an enqueue without a ticket, with one, with its index placed; a dequeue at its first
-- step, without a ticket past it, with one at whose slot it looks, and with one that it gave up: it
-- goes on then, or leaves with nothing
pub data Stance : Type 0 where
  resting : Stance
  drawing : (ring index : ℕ) (content : List ℕ) → Stance
  putting : (ring index : ℕ) (content : List ℕ) (ticket : ℕ) → Stance
  landed : (ring index : ℕ) (content : List ℕ) (ticket : ℕ) → Stance
  asking : (ring : ℕ) → Stance
  seeking : (ring : ℕ) → Stance
  trying : (ring ticket : ℕ) → Stance
  gave_up : (ring ticket : ℕ) (leaves : Bool) → Stance

abbrev pub stance_of : Phase → Stance
stance_of Idle = resting
stance_of (AtE1 r i w l) = drawing r i w
stance_of (AtE2 r i w t l) = putting r i w t
stance_of (AtE3 r i w t e) = putting r i w t
stance_of (AtE4 r i w t e) = putting r i w t
stance_of (AtE5 r i w t) = landed r i w t
stance_of (AtE6 r i w t) = landed r i w t
stance_of (AtD1 r) = asking r
stance_of (AtD2 r l) = seeking r
stance_of (AtD3 r h l) = trying r h
stance_of (AtD4 r h) = trying r h
stance_of (AtD5 r h e) = trying r h
stance_of (AtD6 r h) = gave_up r h false
stance_of (AtD7 r h from to) = gave_up r h true
stance_of (AtD8 r h from) = gave_up r h true
stance_of (AtD9 r h from to) = gave_up r h true
stance_of (AtD10 r h leaving) = gave_up r h leaving

-- the ring of an enqueue whose index is placed, and of any enqueue
abbrev pub placed_ring : Stance → Option ℕ
placed_ring (landed r i w t) = Some r
placed_ring s = None

abbrev pub put_ring : Stance → Option ℕ
put_ring (drawing r i w) = Some r
put_ring (putting r i w t) = Some r
put_ring s = placed_ring s

-- the ring of a dequeue that has a ticket, of one past its first step, and of any dequeue
abbrev pub attempt_ring : Stance → Option ℕ
attempt_ring (trying r h) = Some r
attempt_ring (gave_up r h leaves) = Some r
attempt_ring s = None

abbrev pub entered_ring : Stance → Option ℕ
entered_ring (seeking r) = Some r
entered_ring s = attempt_ring s

abbrev pub get_ring : Stance → Option ℕ
get_ring (asking r) = Some r
get_ring s = entered_ring s

-- 1 where that is this ring
abbrev pub one_on : ℕ → Option ℕ → ℕ
one_on r (Some q) = if q == r then 1 else 0
one_on r None = 0
