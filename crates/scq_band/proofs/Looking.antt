-- Where a put goes from E2, told of the word that E2 found.
use Rattle.std.proofs.Common.{◌≡◌, ℕ, true, false, ◌==◌, List, refl, ◌∙◌, ap, inl, inr}
use Rattle.std.proofs.lemmas.Bool.{cases_Bool}
use Rattle.scq_word.specs.Exports.{safe_in}
use Rattle.atomic_table.specs.Table.{Me}
use Rattle.scq_word.specs.declared.setup.Setup.{Setup}
use Rattle.scq_core.specs.declared.phase.Phase.{Phase}
use Rattle.scq_core.specs.declared.phase.Phase.TheVariants.{AtE2, AtE3}
use Rattle.scq_core.specs.Exports.{SeatPart, ring_slots, goes_on, after}
use Rattle.scq_band.specs.Known.{Known, Member}
use Rattle.scq_band.specs.Exports.{Turned, my, my_phase, IsAlone, goes_to, put_index, content_of}
use Rattle.scq_band.specs.Guesses.{looked_to, HasLooked}
use Rattle.scq_band.proofs.Outcomes.{goes_as}
use Rattle.scq_band.proofs.PutOutcomes.{takes_an_index}

module _ (c : Setup) (r i : ℕ) (w : List ℕ) (t x : ℕ) where
  to_unsafe : takes_an_index c t x ≡ true → (safe_in (ring_slots c) x == 1) ≡ false → looked_to c r i w t x ≡ AtE3 r i w t x
  to_unsafe does unsafe = rw (does, unsafe) refl

  -- its part then
  looked_part : (l : ℕ) (y : List ℕ) (p : SeatPart) → after c (AtE2 r i w t l) x y p ≡ goes_on (looked_to c r i w t x) p
  looked_part l y p =
      elim (cases_Bool (takes_an_index c t x)) [
        | inl does ↦
            elim (cases_Bool (safe_in (ring_slots c) x == 1)) [
              | inl safe ↦ rw (does, safe) refl
              | inr unsafe ↦ rw (does, unsafe) refl
            ]
        | inr none ↦ rw none refl
      ]

  -- and its view
  pub saw : {S : Type 0} (Lies : ℕ → S → List ℕ → Type 0) (me later : Me S Known) (turn : Phase) (l : ℕ) → turn ≡ AtE2 r i w t l → IsAlone me.0
      → Turned Lies c turn me x later → later.0 ≡ goes_to (looked_to c r i w t x) me.0
  saw Lies me later turn l is alone turned =
      goes_as Lies c turn (AtE2 r i w t l) me later x (goes_on (looked_to c r i w t x) (my me.0).part) is alone
      (λ y. looked_part l y (my me.0).part) turned

-- a seat that stands alone is where it is
stands_at : (v : Known) (q : Phase) → IsAlone v → my_phase v ≡ q → v ≡ goes_to q v
stands_at v q alone is = ap (λ (xs : List Member). record v { seats = xs }) alone.seats ∙ ap (λ (p : Phase). goes_to p v) is

-- a put that found a vacant and unsafe entry is at E3
module _ (c : Setup) (v : Known) (r t x : ℕ) (alone : IsAlone v) (looked : HasLooked c r t x (my_phase v)) where
  pub unsafe_at : takes_an_index c t x ≡ true → (safe_in (ring_slots c) x == 1) ≡ false
      → v ≡ goes_to (AtE3 r (put_index (my_phase v)) (content_of (my_phase v)) t x) v
  unsafe_at does unsafe = stands_at v _ alone (looked ∙ to_unsafe c r _ _ t x does unsafe)
