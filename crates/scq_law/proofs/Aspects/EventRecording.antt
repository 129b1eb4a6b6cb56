-- What is recorded of a turn, by its event: which call the seat is in, what is recorded of its end, who placed.
use Rattle.std.proofs.Common.{◌≡◌, ◌≢◌, ℕ, ◌+◌, true, false, ◌&&◌, List, [], ◌∷◌, refl, ◌⊎◌, inl, inr}
use Rattle.std.specs.Prelude.{◌==◌, nat_lt, nat_le}
use Rattle.std.proofs.lemmas.Bool.{cases_Bool}
use Rattle.scq_word.specs.declared.setup.Setup.{Setup}
use Rattle.scq_word.specs.Exports.{cycle_in, is_none_in}
use Rattle.scq_core.specs.declared.ended.Ended.{Ended}
use Rattle.scq_core.specs.declared.phase.Phase.{Phase}
use Rattle.scq_core.specs.declared.phase.Phase.TheVariants.{Idle, AtE1, AtE2, AtE3, AtE4, AtE5, AtE6, AtD1, AtD2, AtD3, AtD4, AtD5, AtD6, AtD7, AtD8, AtD9, AtD10}
use Rattle.scq_core.specs.Exports.{updated_entry, zero_level, reset_level, ring_slots, cycle, Stance, resting, drawing, putting, landed, asking}
use Rattle.scq_core.specs.Exports.{seeking, trying, gave_up, stance_of}
use Rattle.scq_hist.specs.declared.events.Event as history
use Rattle.scq_hist.specs.declared.events.Event.TheVariants.{End}
use Rattle.scq_hist.specs.declared.events.PutName.{PutName}
use Rattle.scq_hist.specs.declared.events.PutName.TheVariants.{Of}
use Rattle.scq_law.specs.Exports.{recorded_reply, starts, puts_after, placer_after}
use Rattle.scq_law.proofs.Base.TicketEvents.{TicketEvent, calm, drew, fell, laid, finished, entered, refused, began, died, saw_end, lifted, taken, lowered, emptied, overran, event}

-- what a seat is in the middle of at its turn, by the turn's event
abbrev pub Within : TicketEvent → Stance → Type 0
Within calm s = s ≢ resting
Within (drew r i w t) s = s ≡ drawing r i w
Within (fell r i w t found) s = s ≡ putting r i w t
Within (laid r i w t) s = s ≡ putting r i w t
Within (finished r i w t) s = s ≡ landed r i w t
Within (entered r) s = s ≡ asking r
Within (refused r) s = s ≡ asking r
Within (began r h) s = s ≡ seeking r
Within (died r h) s = s ≡ trying r h
Within (saw_end r h) s = s ≡ gave_up r h false
Within (lifted r h to) s = s ≡ gave_up r h true
Within (taken r h i w) s = s ≡ trying r h
Within (lowered r h) s = s ≡ gave_up r h false
Within (emptied r h) s = (s ≡ gave_up r h true) ⊎ (s ≡ gave_up r h false)
Within (overran r t true) s = (i : ℕ) × (w : List ℕ) × (s ≡ drawing r i w)
Within (overran r t false) s = s ≡ seeking r

pub within : (c : Setup) (turn : Phase) (x : ℕ) (y : List ℕ) → (turn ≡ Idle → ⊥) → Within (event c turn x y) (stance_of turn)
within c Idle x y awake = absurd (awake refl)
within c (AtE1 r i w l) x y awake =
    elim (cases_Bool (nat_le c.limit x)) [ inl past ↦ rw past (i, w, refl) | inr under ↦ rw under refl ]
within c (AtE2 r i w t l) x y awake =
    elim (cases_Bool (nat_lt (cycle_in (ring_slots c) x) (cycle c t) && is_none_in (ring_slots c) x))
    [ inl fits ↦ rw fits (λ e. cc) | inr fails ↦ rw fails refl ]
within c (AtE3 r i w t e) x y awake =
    elim (cases_Bool (nat_le x t)) [ inl low ↦ rw low (λ e. cc) | inr high ↦ rw high refl ]
within c (AtE4 r i w t e) x y awake =
    elim (cases_Bool (x == e)) [ inl hit ↦ rw hit refl | inr miss ↦ rw miss (λ e. cc) ]
within c (AtE5 r i w t) x y awake =
    elim (cases_Bool (x == reset_level c)) [ inl high ↦ rw high refl | inr low ↦ rw low (λ e. cc) ]
within c (AtE6 r i w t) x y awake = refl
within c (AtD1 r) x y awake =
    elim (cases_Bool (nat_lt x zero_level)) [ inl low ↦ rw low refl | inr high ↦ rw high refl ]
within c (AtD2 r l) x y awake =
    elim (cases_Bool (nat_le c.limit x)) [ inl past ↦ rw past refl | inr under ↦ rw under refl ]
within c (AtD3 r h l) x y awake =
    elim (cases_Bool (cycle_in (ring_slots c) x == cycle c h)) [
      | inl same ↦ rw same (λ e. cc)
      | inr other ↦
          elim (cases_Bool (nat_lt (cycle_in (ring_slots c) x) (cycle c h))) [ inl lower ↦ rw (other, lower) (λ e. cc) | inr higher ↦ rw (other, higher) refl ]
    ]
within c (AtD4 r h) x y awake = refl
within c (AtD5 r h e) x y awake =
    elim (cases_Bool (x == e)) [ inl hit ↦ rw hit refl | inr miss ↦ rw miss (λ e. cc) ]
within c (AtD6 r h) x y awake =
    elim (cases_Bool (nat_le x (h + 1))) [ inl low ↦ rw low refl | inr high ↦ rw high (λ e. cc) ]
within c (AtD7 r h from to) x y awake =
    elim (cases_Bool (x == from)) [ inl hit ↦ rw hit refl | inr miss ↦ rw miss (λ e. cc) ]
within c (AtD8 r h from) x y awake = λ e. cc
within c (AtD9 r h from to) x y awake = λ e. cc
within c (AtD10 r h true) x y awake = inl refl
within c (AtD10 r h false) x y awake =
    elim (cases_Bool (nat_le x zero_level)) [ inl low ↦ rw low (inr refl) | inr high ↦ rw high refl ]

-- a call that goes on has no Start, and is no new put
pub starts_none : (seat : ℕ) (phase : Phase) → (phase ≡ Idle → ⊥) → starts seat phase phase ≡ []
starts_none seat Idle awake = absurd (awake refl)
starts_none seat phase awake = refl

pub puts_none : (seat : ℕ) (phase : Phase) (puts : ℕ → ℕ) → (phase ≡ Idle → ⊥) → puts_after seat phase phase puts ≡ puts
puts_none seat Idle puts awake = absurd (awake refl)
puts_none seat phase puts awake = refl

-- the End, by the call that the event ends
abbrev pub ends_by : ℕ → (ℕ → ℕ → PutName) → List Ended → List history.Event
ends_by seat placer [] = []
ends_by seat placer (x ∷ xs) = End seat (recorded_reply placer x) ∷ []

-- who placed, after an event
abbrev pub placer_by : TicketEvent → ℕ → (ℕ → ℕ) → (ℕ → ℕ → PutName) → ℕ → ℕ → PutName
placer_by (laid r i w t) seat puts placer = updated_entry placer r t (Of seat (puts seat))
placer_by _ seat puts placer = placer

pub placer_turn : (c : Setup) (seat : ℕ) (turn : Phase) (x : ℕ) (y : List ℕ) (puts : ℕ → ℕ) (placer : ℕ → ℕ → PutName)
    → placer_after seat turn x puts placer ≡ placer_by (event c turn x y) seat puts placer
placer_turn c seat Idle x y puts placer = refl
placer_turn c seat (AtE1 r i w l) x y puts placer =
    elim (cases_Bool (nat_le c.limit x)) [ inl past ↦ rw past refl | inr under ↦ rw under refl ]
placer_turn c seat (AtE2 r i w t l) x y puts placer =
    elim (cases_Bool (nat_lt (cycle_in (ring_slots c) x) (cycle c t) && is_none_in (ring_slots c) x)) [ inl fits ↦ rw fits refl | inr fails ↦ rw fails refl ]
placer_turn c seat (AtE3 r i w t e) x y puts placer =
    elim (cases_Bool (nat_le x t)) [ inl low ↦ rw low refl | inr high ↦ rw high refl ]
placer_turn c seat (AtE4 r i w t e) x y puts placer =
    elim (cases_Bool (x == e)) [ inl hit ↦ rw hit refl | inr miss ↦ rw miss refl ]
placer_turn c seat (AtE5 r i w t) x y puts placer =
    elim (cases_Bool (x == reset_level c)) [ inl high ↦ rw high refl | inr low ↦ rw low refl ]
placer_turn c seat (AtE6 r i w t) x y puts placer = refl
placer_turn c seat (AtD1 r) x y puts placer =
    elim (cases_Bool (nat_lt x zero_level)) [ inl low ↦ rw low refl | inr high ↦ rw high refl ]
placer_turn c seat (AtD2 r l) x y puts placer =
    elim (cases_Bool (nat_le c.limit x)) [ inl past ↦ rw past refl | inr under ↦ rw under refl ]
placer_turn c seat (AtD3 r h l) x y puts placer =
    elim (cases_Bool (cycle_in (ring_slots c) x == cycle c h)) [
      | inl same ↦ rw same refl
      | inr other ↦
          elim (cases_Bool (nat_lt (cycle_in (ring_slots c) x) (cycle c h))) [ inl lower ↦ rw (other, lower) refl | inr higher ↦ rw (other, higher) refl ]
    ]
placer_turn c seat (AtD4 r h) x y puts placer = refl
placer_turn c seat (AtD5 r h e) x y puts placer =
    elim (cases_Bool (x == e)) [ inl hit ↦ rw hit refl | inr miss ↦ rw miss refl ]
placer_turn c seat (AtD6 r h) x y puts placer =
    elim (cases_Bool (nat_le x (h + 1))) [ inl low ↦ rw low refl | inr high ↦ rw high refl ]
placer_turn c seat (AtD7 r h from to) x y puts placer =
    elim (cases_Bool (x == from)) [ inl hit ↦ rw hit refl | inr miss ↦ rw miss refl ]
placer_turn c seat (AtD8 r h from) x y puts placer = refl
placer_turn c seat (AtD9 r h from to) x y puts placer = refl
placer_turn c seat (AtD10 r h true) x y puts placer = refl
placer_turn c seat (AtD10 r h false) x y puts placer =
    elim (cases_Bool (nat_le x zero_level)) [ inl low ↦ rw low refl | inr high ↦ rw high refl ]
