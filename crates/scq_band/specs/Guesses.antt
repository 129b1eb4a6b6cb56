-- For private calls: a put that exchanges its ticket's entry from a guess of it, before any load.
use Rattle.std.specs.Prelude.{◌≡◌, ◌≢◌, ℕ, ◌+◌, ◌==◌, ◌&&◌, if◌then◌else◌, nat_lt, List}
use Rattle.atomic_table.specs.Table.{Me, rest}
use Rattle.scq_word.specs.declared.setup.Setup.{Setup}
use Rattle.scq_word.specs.Exports.{packed, cycle_in, safe_in, is_none_in}
use Rattle.scq_core.specs.declared.phase.Phase.{Phase}
use Rattle.scq_core.specs.declared.phase.Phase.TheVariants.{AtE1, AtE2, AtE3, AtE4}
use Rattle.scq_core.specs.Exports.{ring_slots, cycle}
use Rattle.scq_band.specs.Known.{Known}
use Rattle.scq_band.specs.Turns.{Fronts, Turned}
use Rattle.scq_band.specs.Seats.{placed_to, put_index, content_of}
use Rattle.scq_band.specs.Rings.{IsPlainlyVacant}

-- a put at E2: the guess is vacant to its ticket, and `new` is what the entry is to become
abbrev pub Guesses : Setup → Phase → ℕ → ℕ → Type 0
Guesses c (AtE2 r i w t l) guess new =
    IsPlainlyVacant c t guess × (new ≡ packed (ring_slots c) (cycle c t) 1 i)
Guesses c turn guess new = ⊥

-- the view of a seat that was at E2 and has placed its index
abbrev pub placed_from : Phase → Known → Known
placed_from (AtE2 r i w t l) v = placed_to r i w t v
placed_from turn v = v

-- where a put goes from E2, which found the word x
abbrev pub looked_to : Setup → ℕ → ℕ → List ℕ → ℕ → ℕ → Phase
looked_to c r i w t x =
    if nat_lt (cycle_in (ring_slots c) x) (cycle c t) && is_none_in (ring_slots c) x
    then (if safe_in (ring_slots c) x == 1 then AtE4 r i w t x else AtE3 r i w t x)
    else AtE1 r i w (t + 1)

-- a put has looked at its ticket's slot, and found the word x
abbrev pub HasLooked : Setup → ℕ → ℕ → ℕ → Phase → Type 0
HasLooked c r t x phase = phase ≡ looked_to c r (put_index phase) (content_of phase) t x

module _ {S : Type 0} (Lies : ℕ → S → List ℕ → Type 0) where
  -- the slot of its index stands first
  abbrev pub CarriesGuess : Phase → List (ℕ × S) → Type 0
  CarriesGuess (AtE2 r i w t l) slots = Fronts Lies i w slots
  CarriesGuess turn slots = Unit {0}

  -- what an exchange from a guess tells: where the entry was as guessed it was loaded and
  -- exchanged, E2 and E4, and the first slot went home; where it was not it was loaded, E2
  pub record Guessed (c : Setup) (t : Phase) (guess : ℕ) (me : Me S Known) (x : ℕ)
      (later : Me S Known) : Type 0 where
    pub hit : x ≡ guess → (later.0 ≡ placed_from t me.0) × (later.1 ≡ rest me.1)
    pub missed : x ≢ guess → Turned Lies c t me x later
