-- Every index in a hand or at a place is below n.
use Rattle.std.proofs.Common.{◌≡◌, ℕ, ◌-◌, ◌<◌, refl, true, List, ◌++◌, [], ◌∷◌, length, inl, inr, ap, sym, ◌∙◌, arith}
use Rattle.std.proofs.lemmas.Bool.{cases_eq}
use Rattle.scq_word.specs.declared.setup.Setup.{Setup}
use Rattle.scq_word.specs.Exports.{n_of}
use Rattle.scq_core.specs.Machine.{Machine}
use Rattle.scq_core.specs.Exports.{ring_slots, hand_without, holds_index, start_of}
use Rattle.scq_core.proofs.UpdatedLemmas.{updated_entry_or}
use Rattle.scq_law.specs.Exports.{Maker, call_of}
use Rattle.scq_law.proofs.Base.Ghosts.{Ghost, PutState, pending, failed, placed, start_ghost, with_put}
use Rattle.scq_law.proofs.Base.TicketEvents.{TicketEvent, drew, fell, laid, taken}
use Rattle.scq_law.proofs.Base.StartTickets.{stands_at}
use Rattle.scq_law.proofs.Base.EventSteps.{EventStep, ghost_next}
use Rattle.scq_law.proofs.Places.HandLemmas.{holds_without, holds_pushed}
use Rattle.scq_law.proofs.Places.OneSpot.{hands_still}

pub record HasSmallIndices (c : Setup) (g : Ghost) (m : Machine) : Type 0 where
  pub hands : (k i : ℕ) → holds_index (m.part k).hand i ≡ true → i < n_of c.order
  pub places : (r p i : ℕ) (w : List ℕ) (b : Maker) → g.puts r p ≡ placed i w b → i < n_of c.order

pub small_start : (c : Setup) (opening : List (List ℕ)) → HasSmallIndices c (start_ghost c opening) (start_of c opening)
small_start c opening =
    record {
      hands = λ k i has. absurd (cc);
      places =
          λ r p i w b is.
          elim (stands_at c opening r p) [
            | inl s ↦
                let at = s.is in let first = s.first in let last = s.last in
                let index : p - ring_slots c ≡ i = cc in
                omega arith
            | inr s ↦ let at = s.is in absurd (cc)
          ];
    }

-- a ticket changes, to a state with no index placed or with a small one
places_put : (c : Setup) (g : Ghost) (r t : ℕ) (x : PutState) → ((i : ℕ) (w : List ℕ) (b : Maker) → x ≡ placed i w b → i < n_of c.order)
    → ((q p i : ℕ) (w : List ℕ) (b : Maker) → g.puts q p ≡ placed i w b → i < n_of c.order) → (q p i : ℕ) (w : List ℕ) (b : Maker)
    → (with_put g r t x).puts q p ≡ placed i w b → i < n_of c.order
places_put c g r t x new old q p i w b is =
    elim (updated_entry_or g.puts r t x q p) [
      | inl a ↦ new i w b (sym a.2 ∙ is)
      | inr a ↦ old q p i w b (sym a.1 ∙ is)
    ]

-- hands that an event leaves
hands_stay : (c : Setup) (m n : Machine) → ((j : ℕ) → (n.part j).hand ≡ (m.part j).hand)
    → ((k i : ℕ) → holds_index (m.part k).hand i ≡ true → i < n_of c.order) → (k i : ℕ) → holds_index (n.part k).hand i ≡ true → i < n_of c.order
hands_stay c m n same old k i has = old k i (ap (λ x. holds_index x i) (sym (same k)) ∙ has)

pub small_step : (c : Setup) (time : ℕ) (g : Ghost) (m : Machine) (k : ℕ) (e : TicketEvent) (n : Machine) → EventStep c time g m k e n → HasSmallIndices c g m
    → HasSmallIndices c (ghost_next time g m k e) n
small_step c time g m k (drew r i w t) n event_step old =
    record {
      hands = hands_stay c m n (hands_still c m g k (drew r i w t) n event_step.event_facts refl) old.hands;
      places = places_put c g r t (pending k i) (λ x v b is. absurd (cc)) old.places;
    }
small_step c time g m k (fell r i w t found) n event_step old =
    record {
      hands = hands_stay c m n (hands_still c m g k (fell r i w t found) n event_step.event_facts refl) old.hands;
      places = places_put c g r t (failed time i found) (λ x v b is. absurd (cc)) old.places;
    }
small_step c time g m k (laid r i w t) n event_step old =
    let d = event_step.event_facts in
    let low = d.proper.index in
    record {
      hands =
          λ j x has.
          elim (cases_eq j k) [
            | inl own ↦
                let here : holds_index (hand_without i (m.part k).hand) x ≡ true = rw (own, d.hand) at has in
                old.hands k x (holds_without (m.part k).hand i x here).0
            | inr other ↦ old.hands j x (rw (d.others j other) at has)
          ];
      places =
          places_put c g r t (placed i w (call_of k (length (m.part k).calls)))
          (λ x v b is. let same : i ≡ x = cc in rw (← same) low)
          old.places;
    }
small_step c time g m k (taken r h i w) n event_step old =
    let d = event_step.event_facts in
    let low : i < n_of c.order = old.places r h i w d.proper.maker d.proper.placed in
    record {
      hands =
          λ j x has.
          elim (cases_eq j k) [
            | inl own ↦
                let here : holds_index ((m.part k).hand ++ i ∷ []) x ≡ true = rw (own, d.hand) at has in
                elim (holds_pushed (m.part k).hand i x here) [ inl was ↦ old.hands k x was | inr new ↦ rw new low ]
            | inr other ↦ old.hands j x (rw (d.others j other) at has)
          ];
      places = old.places;
    }
small_step c time g m k e n event_step old =
    record { hands = hands_stay c m n (hands_still c m g k e n event_step.event_facts refl) old.hands; places = old.places }
