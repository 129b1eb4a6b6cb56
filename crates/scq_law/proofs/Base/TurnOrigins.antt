-- Where an enabled turn's seat comes from: its stance is the turn's, or it rests and the turn begins a call.
use Rattle.std.proofs.Common.{◌≡◌, ℕ, List, Bool, true, false, refl, ap, sym, ◌⊎◌, inl, inr}
use Rattle.std.specs.Prelude.{Option, Some, None}
use Rattle.scq_word.specs.declared.setup.Setup.{Setup}
use Rattle.scq_core.specs.declared.phase.Phase.{Phase}
use Rattle.scq_core.specs.declared.phase.Phase.TheVariants.{AtE1, AtD1}
use Rattle.scq_core.specs.declared.step.Step.{Step}
use Rattle.scq_core.specs.Exports.{SeatPart, turn_of, next_step, resting, stance_of}
use Rattle.scq_core.proofs.Turns.{Begins, begins_put, begins_get, begins, Enables, new_put, new_get, continues, enables}

-- a first step of a call; a dequeue's never is what a seat rests at
abbrev pub is_first_step : Phase → Bool
is_first_step (AtE1 r i w l) = true
is_first_step (AtD1 r) = true
is_first_step _ = false

-- what a seat in the middle of a call is at has a next step
next_enabled : (c : Setup) (hand : List ℕ) (spent : Option ℕ) (phase : Phase) (step : Step) (turn : Phase) → Enables c hand spent phase step turn
    → turn ≡ phase → next_step turn ≡ Some step
next_enabled c hand spent phase step turn (new_put r i w ring index held) same = absurd (cc)
next_enabled c hand spent phase step turn (new_get r ring) same = absurd (cc)
next_enabled c hand spent phase step turn (continues kept own s next new) same = next

-- the seat is idle, keeps no ticket, and the turn is a call's first
pub record Starts (p : SeatPart) (turn : Phase) : Type 0 where
  pub rests : stance_of p.phase ≡ resting
  pub keeps : p.spent ≡ None
  pub first : is_first_step turn ≡ true

-- the seat is in the middle of a call
pub record IsInMidCall (p : SeatPart) (turn : Phase) : Type 0 where
  pub stance : stance_of p.phase ≡ stance_of turn
  pub step : Step
  pub on : next_step turn ≡ Some step

abbrev pub From : SeatPart → Phase → Type 0
From p turn = Starts p turn ⊎ IsInMidCall p turn

begins_first : (c : Setup) (hand : List ℕ) (turn : Phase) → Begins c hand turn → is_first_step turn ≡ true
begins_first c hand turn (begins_put r i w ring index held) = refl
begins_first c hand turn (begins_get r ring) = refl

pub came_from : (c : Setup) (p : SeatPart) (s : Step) (turn : Phase) → turn_of c p s ≡ Some turn → From p turn
came_from c p s turn enabled =
    elim (begins c p.hand p.spent p.phase s turn enabled) [
      | inl same ↦
          inr
          (record {
            stance = ap stance_of (sym same);
            step = s;
            on = next_enabled c p.hand p.spent p.phase s turn (enables c p.hand p.spent p.phase s turn enabled) same;
          })
      | inr new ↦
          inl
          (record { rests = ap stance_of new.0; keeps = new.1; first = begins_first c p.hand turn new.2 })
    ]

-- a turn that is no first step goes on
pub goes_from : (p : SeatPart) (turn : Phase) → is_first_step turn ≡ false → From p turn → stance_of p.phase ≡ stance_of turn
goes_from p turn later from = elim from [ inl s ↦ let first = s.first in absurd (cc) | inr g ↦ g.stance ]
