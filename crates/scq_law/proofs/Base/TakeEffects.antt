-- A dequeue takes the index that stands at its ticket, and the entry keeps its cycle and safe bit.
use Rattle.std.proofs.Common.{◌≡◌, ℕ, List, ◌⊎◌, inl, inr, true, false, sym, ◌∙◌, refl}
use Rattle.scq_word.specs.declared.setup.Setup.{Setup}
use Rattle.scq_word.specs.Exports.{safe_in, cycle_in, is_none_in}
use Rattle.scq_core.specs.Exports.{Entries, ring_slots, cycle, slot, IsAbove}
use Rattle.scq_core.proofs.UpdatedLemmas.{updated_entry_cases}
use Rattle.scq_law.specs.Exports.{Maker}
use Rattle.scq_law.proofs.Base.Ghosts.{Ghost, GetState, opened, dead, took, placed, is_placed, waiting, with_get}
use Rattle.scq_law.proofs.Base.BaseGroup.{updated_entry_else, IsBooked, Holds, Stands, Shut, Passed, Loaded, Moves, Effect, at_ticket}
use Rattle.scq_law.proofs.Base.SlotFacts.{came_back}
use Rattle.scq_law.proofs.Base.PlaceCases.{Here, Beside, IsOtherSlot, places}
use Rattle.scq_law.proofs.Base.GiveUpEffects.{reworded}

-- a word e that has an index becomes z, which has none
pub record Empties (s e z : ℕ) : Type 0 where
  pub cycle : cycle_in s z ≡ cycle_in s e
  pub safe : safe_in s z ≡ safe_in s e
  pub none : is_none_in s z ≡ true
  pub above : IsAbove s e z

module _ (c : Setup) (e : Entries) (g : Ghost) (k r h z number : ℕ) (mine : g.gets r h ≡ opened k) (there : Holds c e.word r h)
    (empties : Empties (ring_slots c) (at_ticket c e.word r h) z) (booked : IsBooked c e g) where
  abbrev place : (q p : ℕ)
      → Here ℕ GetState c e.word z g.gets (took k number) r h q p
      ⊎ (Beside ℕ GetState c e.word z g.gets (took k number) r h q p ⊎ IsOtherSlot ℕ GetState c e.word z g.gets (took k number) r h q p)
  place q p = places c e.word z g.gets (took k number) r h q p

  cycle_z : cycle_in (ring_slots c) z ≡ cycle c h
  cycle_z = empties.cycle ∙ there.cycle

  took_live : (q p : ℕ) → Holds c (reworded c e r h z).word q p → (is_placed (g.puts q p) ≡ true) × (waiting ((with_get g r h (took k number)).gets q p) ≡ true)
  took_live q p has =
      elim (place q p) [
        | inl a ↦ let some : is_none_in (ring_slots c) z ≡ false = rw a.word_is at has.index in let none = empties.none in absurd (cc)
        | inr (inl a) ↦ let some : is_none_in (ring_slots c) z ≡ false = rw a.word_is at has.index in let none = empties.none in absurd (cc)
        | inr (inr a) ↦
            let old = booked.live q p (record { cycle = rw a.word_is at has.cycle; index = rw a.word_is at has.index }) in
            (old.0, rw a.state_is old.1)
      ]

  took_stands : (q p i : ℕ) (w : List ℕ) (b : Maker) → g.puts q p ≡ placed i w b → waiting ((with_get g r h (took k number)).gets q p) ≡ true
      → Stands c (reworded c e r h z) q p i w
  took_stands q p i w b is waits =
      elim (place q p) [
        | inl a ↦ let not : waiting (took k number) ≡ true = rw a.state_is at waits in absurd (cc)
        | inr (inl a) ↦
            let old = booked.stands q p i w b is (rw a.state_is at waits) in
            let at_e : cycle_in (ring_slots c) (at_ticket c e.word r h) ≡ cycle c p = rw (a.ring, a.slot) at old.holds.cycle in
            absurd (a.turn (sym at_e ∙ there.cycle))
        | inr (inr a) ↦
            let old = booked.stands q p i w b is (rw a.state_is at waits) in
            record { holds = record { cycle = rw a.word_is old.holds.cycle; index = rw a.word_is old.holds.index }; index = rw a.word_is old.index; content = old.content; small = old.small }
      ]

  took_shut : (q p : ℕ) → (with_get g r h (took k number)).gets q p ≡ dead → Shut c (at_ticket c (reworded c e r h z).word q p) (cycle c p)
  took_shut q p gone =
      elim (place q p) [
        | inl a ↦ absurd (cc)
        | inr (inl a) ↦
            let old = booked.shut q p (sym a.state_is ∙ gone) in
            let was : Shut c (at_ticket c e.word r h) (cycle c p) = rw (a.ring, a.slot) at old in
            rw (a.word_is, empties.cycle, empties.safe) was
        | inr (inr a) ↦ rw a.word_is (booked.shut q p (sym a.state_is ∙ gone))
      ]

  took_booked : IsBooked c (reworded c e r h z) (with_get g r h (took k number))
  took_booked =
      record {
        live = took_live;
        stands = took_stands;
        over =
            λ q p first at none.
            elim (place q p) [
              | inl a ↦ rw a.state_is refl
              | inr (inl a) ↦ let at_z : cycle_in (ring_slots c) z ≡ cycle c p = rw a.word_is at at in absurd (a.turn (sym at_z ∙ cycle_z))
              | inr (inr a) ↦ rw a.state_is (booked.over q p first (rw a.word_is at at) (rw a.word_is at none))
            ];
        taken =
            λ q p j x got.
            elim (place q p) [
              | inl a ↦ rw (a.ring, a.ticket) (booked.live r h there).0
              | inr (inl a) ↦ booked.taken q p j x (sym a.state_is ∙ got)
              | inr (inr a) ↦ booked.taken q p j x (sym a.state_is ∙ got)
            ];
        never =
            λ q p gone.
            elim (place q p) [
              | inl a ↦ absurd (cc)
              | inr (inl a) ↦ booked.never q p (sym a.state_is ∙ gone)
              | inr (inr a) ↦ booked.never q p (sym a.state_is ∙ gone)
            ];
        shut = took_shut;
      }

  opened_once : (j q p : ℕ) → g.gets q p ≡ opened j → q ≡ r → p ≡ h → j ≡ k
  opened_once j q p is ring ticket =
      let same : opened j ≡ opened k = sym is ∙ rw (ring, ticket) mine in cc

  -- a loaded word does not stand in this entry, since the entry's rank rose from a word with an index
  took_passes : (q t v : ℕ) → Loaded c e.word q t v → Passed c e.word g.gets q t v
      → Passed c (reworded c e r h z).word (with_get g r h (took k number)).gets q t v
  took_passes q t v loaded old =
      record {
        passed =
            λ stands unsafe p met gone.
            elim (place q p) [
              | inl a ↦ absurd (cc)
              | inr (inl a) ↦
                  let slots : slot c h ≡ slot c t = sym a.slot ∙ met in
                  let is : z ≡ v = sym a.word_is ∙ rw (← met) at stands in
                  let above : IsAbove (ring_slots c) v (at_ticket c e.word r h) = rw (a.ring, ← slots) at loaded.lags.above in
                  let stood : at_ticket c e.word r h ≡ v = came_back (ring_slots c) v (at_ticket c e.word r h) z is above empties.above in
                  let none : is_none_in (ring_slots c) (at_ticket c e.word r h) ≡ true = rw stood loaded.empty in
                  let some = there.index in
                  absurd (cc)
              | inr (inr a) ↦
                  old.passed (rw (← met) (sym a.word_is) ∙ stands) unsafe p met (sym a.state_is ∙ gone)
            ];
      }

  took_moves : Moves c e g k (reworded c e r h z) (with_get g r h (took k number))
  took_moves =
      record {
        pends = λ j q p i apart is. is;
        lies = λ q p i w b is. is;
        opens = λ j q p apart is. updated_entry_else g.gets r h (took k number) q p
            (λ ring ticket. apart (opened_once j q p is ring ticket)) ∙ is;
        ends =
            λ q p is.
            updated_entry_cases (λ _ _ v. v ≡ dead) g.gets r h (took k number) q p (λ ring ticket. absurd (cc)) (λ _. is);
        takes =
            λ q p j x is.
            updated_entry_cases (λ _ _ v. v ≡ took j x) g.gets r h (took k number) q p (λ ring ticket. absurd (cc)) (λ _. is);
        holds =
            λ j q p apart is has.
            elim (place q p) [
              | inl a ↦ absurd (apart (opened_once j q p is a.ring a.ticket))
              | inr (inl a) ↦
                  let at_e : cycle_in (ring_slots c) (at_ticket c e.word r h) ≡ cycle c p = rw (a.ring, a.slot) at has.cycle in
                  absurd (a.turn (sym at_e ∙ there.cycle))
              | inr (inr a) ↦ record { cycle = rw a.word_is has.cycle; index = rw a.word_is has.index }
            ];
        passes = took_passes;
      }

  pub took_effect : Effect c e g k (reworded c e r h z) (with_get g r h (took k number))
  took_effect = record { booked = took_booked; moves = took_moves }
