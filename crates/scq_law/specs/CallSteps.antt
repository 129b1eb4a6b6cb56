-- How many steps of its own a call can still make, whatever the other seats do.
use Rattle.std.specs.Prelude.{◌≡◌, ℕ, ◌+◌, ◌-◌, ◌*◌, ◌<◌, ◌≤◌, true, false, ◌==◌, List, length}
use Rattle.std.specs.Prelude.{Some}
use Rattle.std.specs.List.{count_by}
use Rattle.scq_word.specs.declared.setup.Setup.{Setup}
use Rattle.scq_word.specs.Exports.{rank_in}
use Rattle.scq_core.specs.declared.phase.Phase.{Phase}
use Rattle.scq_core.specs.declared.phase.Phase.TheVariants.{Idle, AtE1, AtE2, AtE3, AtE4, AtE5}
use Rattle.scq_core.specs.declared.phase.Phase.TheVariants.{AtE6, AtD1, AtD2, AtD3, AtD4, AtD5}
use Rattle.scq_core.specs.declared.phase.Phase.TheVariants.{AtD6, AtD7, AtD8, AtD9, AtD10}
use Rattle.scq_core.specs.declared.step.Step.{Step}
use Rattle.scq_core.specs.Exports.{read, beside, ring_slots, turn_of, location_of, after}
use Rattle.scq_core.specs.Machine.{Machine}

-- above the rank of each word that an exchange is tried with, and no lower than Tail ever is
abbrev pub top : Setup → ℕ
top c = 3 * c.limit + c.seats

-- more steps than a call can make with one ticket and the catch-up after it
abbrev pub ticket_steps : Setup → ℕ
ticket_steps c = 5 * top c + 9

-- as many for each ticket after this one, up to the limit
abbrev pub steps_past : Setup → ℕ → ℕ
steps_past c ticket = (c.limit - ticket) * ticket_steps c

-- as many for each ticket from this one on
abbrev pub ticket_steps_from : Setup → ℕ → ℕ
ticket_steps_from c least = (c.limit - least + 1) * ticket_steps c

-- the most steps of a call
abbrev pub call_steps : Setup → ℕ
call_steps c = ticket_steps_from c 0 + 1

-- at most so many steps are left to a call that is at this phase: fewer with one ticket as the rank
-- rises, fewer in a catch-up as Tail rises, and fewer from ticket to ticket
abbrev pub steps_left : Setup → Phase → ℕ
steps_left c Idle = 0
steps_left c (AtE1 r i w l) = ticket_steps_from c l
steps_left c (AtE2 r i w t l) = steps_past c t + 3 * (top c - l) + 5
steps_left c (AtE3 r i w t e) = steps_past c t + 3 * (top c - rank_in (ring_slots c) e) + 4
steps_left c (AtE4 r i w t e) = steps_past c t + 3 * (top c - rank_in (ring_slots c) e) + 3
steps_left c (AtE5 r i w t) = 2
steps_left c (AtE6 r i w t) = 1
steps_left c (AtD1 r) = call_steps c
steps_left c (AtD2 r l) = ticket_steps_from c l
steps_left c (AtD3 r h l) = steps_past c h + 3 * top c + 2 * (top c - l) + 8
steps_left c (AtD4 r h) = 1
steps_left c (AtD5 r h e) = steps_past c h + 3 * top c + 2 * (top c - rank_in (ring_slots c) e) + 7
steps_left c (AtD6 r h) = steps_past c h + 3 * top c + 6
steps_left c (AtD7 r h from to) = 3 * (top c - from) + 4
steps_left c (AtD8 r h from) = 3 * (top c - from) + 3
steps_left c (AtD9 r h from to) = 3 * (top c - from) + 2
steps_left c (AtD10 r h true) = 1
steps_left c (AtD10 r h false) = steps_past c h + 1

-- each step of a seat leaves its call fewer, and a call that begins has no more left than this
pub record CallsEnd (c : Setup) (m : Machine) : Type 0 where
  pub fewer : (k : ℕ) (s : Step) (turn : Phase) → turn_of c (m.part k) s ≡ Some turn
      → steps_left c (after c turn (read m.cells (location_of c turn))
      (beside m.cells (location_of c turn)) (m.part k)).phase < steps_left c turn
  pub most : (phase : Phase) → steps_left c phase ≤ call_steps c

-- how many of a run's steps are those of a seat
abbrev pub steps_of : ℕ → List (ℕ × Step) → ℕ
steps_of k steps = count_by (λ (x : ℕ × Step). x.0 == k) steps

-- a seat has made at most so many steps for each call that it has ended, and for one that it has
-- under way
pub record FewSteps (c : Setup) (steps : List (ℕ × Step)) (m : Machine) : Type 0 where
  pub few : (k : ℕ) → steps_of k steps ≤ (length (m.part k).calls + 1) * call_steps c
