-- A dequeue gives its ticket up: it found an entry of a later cycle, or moved or marked an entry of an earlier one.
-- Plan: what such a write does to a word is one record; from it each fact of the books by where its place is.
use Rattle.std.proofs.Common.{◌≡◌, ◌≢◌, ℕ, List, ◌<◌, ◌≤◌, ◌⊎◌, inl, inr, true, false, ap, sym, ◌∙◌, refl, arith}
use Rattle.scq_word.specs.declared.setup.Setup.{Setup}
use Rattle.scq_word.specs.Exports.{index_in, safe_in, cycle_in, is_none_in}
use Rattle.scq_core.specs.Exports.{Entries, updated_entry, ring_slots, cycle, slot, IsAbove}
use Rattle.scq_core.proofs.UpdatedLemmas.{updated_entry_cases}
use Rattle.scq_law.specs.Exports.{Maker}
use Rattle.scq_law.proofs.Base.Ghosts.{Ghost, PutState, fresh, pending, failed, GetState, opened, dead, took, placed, is_placed, waiting, with_get}
use Rattle.scq_law.proofs.Base.BaseGroup.{updated_entry_else, IsBooked, Holds, Stands, Shut, Passed, Loaded, Moves, Effect, at_ticket}
use Rattle.scq_law.proofs.Base.SlotFacts.{came_back, below_cycle}
use Rattle.scq_law.proofs.Base.PlaceCases.{Here, Beside, IsOtherSlot, places}

-- a word e of another cycle than d becomes z, after which no index comes to the cycle d
pub record Closes (s e z d : ℕ) : Type 0 where
  pub away : cycle_in s e ≢ d
  pub shut : (d ≤ cycle_in s z) ⊎ (safe_in s z ≡ 0)
  pub none : is_none_in s z ≡ is_none_in s e
  pub full : is_none_in s e ≡ false → (cycle_in s z ≡ cycle_in s e) × (index_in s z ≡ index_in s e)
  pub empty : is_none_in s z ≡ true → (cycle_in s z ≡ d) ⊎ (z ≡ e)
  pub closed : (b : ℕ) → (b ≤ cycle_in s e) ⊎ (safe_in s e ≡ 0) → (b ≤ cycle_in s z) ⊎ (safe_in s z ≡ 0)
  pub above : IsAbove s e z
  pub later : is_none_in s z ≡ true → z ≡ e → d < cycle_in s e

-- the entries with the word of a ticket's slot changed
abbrev pub reworded : Setup → Entries → ℕ → ℕ → ℕ → Entries
reworded c e r t z = record { word = updated_entry e.word r (slot c t) z; content = e.content }

module _ (c : Setup) (e : Entries) (g : Ghost) (k r h z : ℕ) (mine : g.gets r h ≡ opened k)
    (closes : Closes (ring_slots c) (at_ticket c e.word r h) z (cycle c h)) (booked : IsBooked c e g) where
  -- no index stands at the ticket, before and after
  not_there : Holds c e.word r h → ⊥
  not_there has = closes.away has.cycle

  -- nothing was placed there
  pub died_unplaced : is_placed (g.puts r h) ≡ false
  died_unplaced = go (g.puts r h) refl
    where
      go : (x : PutState) → g.puts r h ≡ x → is_placed x ≡ false
      go fresh is = refl
      go (pending j i) is = refl
      go (failed y d b) is = refl
      go (placed i w b) is = absurd (not_there (booked.stands r h i w b is (ap waiting mine)).holds)

  -- an index that stands at another ticket of the slot stands there before and after
  was_beside : (p : ℕ) → slot c p ≡ slot c h → cycle c p ≢ cycle c h → cycle_in (ring_slots c) z ≡ cycle c p → is_none_in (ring_slots c) z ≡ false
      → Holds c e.word r p
  was_beside p slot turn at has =
      let old : is_none_in (ring_slots c) (at_ticket c e.word r h) ≡ false = sym closes.none ∙ has in
      let same = (closes.full old).0 in
      record { cycle = rw slot (sym same ∙ at); index = rw slot old }

  is_beside : (p : ℕ) → slot c p ≡ slot c h → Holds c e.word r p → (cycle_in (ring_slots c) z ≡ cycle c p) × (is_none_in (ring_slots c) z ≡ false)
  is_beside p slot has =
      let old : is_none_in (ring_slots c) (at_ticket c e.word r h) ≡ false = rw slot at has.index in
      let at : cycle_in (ring_slots c) (at_ticket c e.word r h) ≡ cycle c p = rw slot at has.cycle in
      ((closes.full old).0 ∙ at, closes.none ∙ old)

  abbrev place : (q p : ℕ)
      → Here ℕ GetState c e.word z g.gets dead r h q p ⊎ (Beside ℕ GetState c e.word z g.gets dead r h q p ⊎ IsOtherSlot ℕ GetState c e.word z g.gets dead r h q p)
  place q p = places c e.word z g.gets dead r h q p

  died_live : (q p : ℕ) → Holds c (reworded c e r h z).word q p → (is_placed (g.puts q p) ≡ true) × (waiting ((with_get g r h dead).gets q p) ≡ true)
  died_live q p has =
      elim (place q p) [
        | inl a ↦
            let at : cycle_in (ring_slots c) z ≡ cycle c p = rw a.word_is at has.cycle in
            let some : is_none_in (ring_slots c) z ≡ false = rw a.word_is at has.index in
            let old : is_none_in (ring_slots c) (at_ticket c e.word r h) ≡ false = sym closes.none ∙ some in
            absurd (closes.away (sym (closes.full old).0 ∙ at ∙ ap (cycle c) a.ticket))
        | inr (inl a) ↦
            let at : cycle_in (ring_slots c) z ≡ cycle c p = rw a.word_is at has.cycle in
            let some : is_none_in (ring_slots c) z ≡ false = rw a.word_is at has.index in
            let old = booked.live r p (was_beside p a.slot a.turn at some) in
            (rw a.ring old.0, rw (a.state_is, a.ring) old.1)
        | inr (inr a) ↦
            let old = booked.live q p (record { cycle = rw a.word_is at has.cycle; index = rw a.word_is at has.index }) in
            (old.0, rw a.state_is old.1)
      ]

  died_stands : (q p i : ℕ) (w : List ℕ) (b : Maker) → g.puts q p ≡ placed i w b → waiting ((with_get g r h dead).gets q p) ≡ true
      → Stands c (reworded c e r h z) q p i w
  died_stands q p i w b is waits =
      elim (place q p) [
        | inl a ↦ let not : waiting dead ≡ true = rw a.state_is at waits in absurd (cc)
        | inr (inl a) ↦
            let old = booked.stands q p i w b is (rw a.state_is at waits) in
            let was : Holds c e.word r p = rw a.ring at old.holds in
            let now = is_beside p a.slot was in
            let some : is_none_in (ring_slots c) (at_ticket c e.word r h) ≡ false = rw a.slot at was.index in
            let index : index_in (ring_slots c) (at_ticket c e.word r h) ≡ i = rw (a.ring, a.slot) at old.index in
            record {
              holds = record { cycle = rw a.word_is now.0; index = rw a.word_is now.1 };
              index = rw a.word_is ((closes.full some).1 ∙ index);
              content = old.content;
              small = old.small;
            }
        | inr (inr a) ↦
            let old = booked.stands q p i w b is (rw a.state_is at waits) in
            record { holds = record { cycle = rw a.word_is old.holds.cycle; index = rw a.word_is old.holds.index }; index = rw a.word_is old.index; content = old.content; small = old.small }
      ]

  died_over : (q p : ℕ) → ring_slots c ≤ p → cycle_in (ring_slots c) (at_ticket c (reworded c e r h z).word q p) ≡ cycle c p
      → is_none_in (ring_slots c) (at_ticket c (reworded c e r h z).word q p) ≡ true → waiting ((with_get g r h dead).gets q p) ≡ false
  died_over q p first at none =
      elim (place q p) [
        | inl a ↦ rw a.state_is refl
        | inr (inl a) ↦
            let at_z : cycle_in (ring_slots c) z ≡ cycle c p = rw a.word_is at at in
            let none_z : is_none_in (ring_slots c) z ≡ true = rw a.word_is at none in
            elim (closes.empty none_z) [
              | inl moved ↦ absurd (a.turn (sym at_z ∙ moved))
              | inr same ↦
                  let at_e : cycle_in (ring_slots c) (at_ticket c e.word r p) ≡ cycle c p = rw (a.slot, ← same) at_z in
                  let none_e : is_none_in (ring_slots c) (at_ticket c e.word r p) ≡ true = rw (a.slot, ← same) none_z in
                  rw (a.state_is, a.ring) (booked.over r p first at_e none_e)
            ]
        | inr (inr a) ↦ rw a.state_is (booked.over q p first (rw a.word_is at at) (rw a.word_is at none))
      ]

  died_shut : (q p : ℕ) → (with_get g r h dead).gets q p ≡ dead → Shut c (at_ticket c (reworded c e r h z).word q p) (cycle c p)
  died_shut q p gone =
      elim (place q p) [
        | inl a ↦ rw (a.word_is, a.ticket) closes.shut
        | inr (inl a) ↦
            let old = booked.shut q p (sym a.state_is ∙ gone) in
            let was : Shut c (at_ticket c e.word r h) (cycle c p) = rw (a.ring, a.slot) at old in
            rw a.word_is (closes.closed (cycle c p) was)
        | inr (inr a) ↦ rw a.word_is (booked.shut q p (sym a.state_is ∙ gone))
      ]

  died_booked : IsBooked c (reworded c e r h z) (with_get g r h dead)
  died_booked =
      record {
        live = died_live;
        stands = died_stands;
        over = died_over;
        taken =
            λ q p j x got.
            elim (place q p) [
              | inl a ↦ absurd (cc)
              | inr (inl a) ↦ booked.taken q p j x (sym a.state_is ∙ got)
              | inr (inr a) ↦ booked.taken q p j x (sym a.state_is ∙ got)
            ];
        never =
            λ q p gone.
            elim (place q p) [
              | inl a ↦ rw (a.ring, a.ticket) died_unplaced
              | inr (inl a) ↦ booked.never q p (sym a.state_is ∙ gone)
              | inr (inr a) ↦ booked.never q p (sym a.state_is ∙ gone)
            ];
        shut = died_shut;
      }

module _ (c : Setup) (e : Entries) (g : Ghost) (k r h z : ℕ) (mine : g.gets r h ≡ opened k)
    (closes : Closes (ring_slots c) (at_ticket c e.word r h) z (cycle c h)) (booked : IsBooked c e g) where
  -- the ticket is open for this seat alone
  opened_once : (j q p : ℕ) → g.gets q p ≡ opened j → q ≡ r → p ≡ h → j ≡ k
  opened_once j q p is ring ticket =
      let same : opened j ≡ opened k = sym is ∙ rw (ring, ticket) mine in cc

  -- a loaded word that stands in the entry now stood there before
  stood_there : (q t v : ℕ) → Loaded c e.word q t v → q ≡ r → slot c h ≡ slot c t → z ≡ v → at_ticket c e.word r h ≡ v
  stood_there q t v loaded ring slots is =
      let above : IsAbove (ring_slots c) v (at_ticket c e.word r h) = rw (ring, ← slots) at loaded.lags.above in
      came_back (ring_slots c) v (at_ticket c e.word r h) z is above closes.above

  -- a seat that is about to (place c e g k r h z mine closes booked) at another ticket: the entry is not the word that it loaded, or the ticket is above
  died_passes : (q t v : ℕ) → Loaded c e.word q t v → Passed c e.word g.gets q t v → Passed c (reworded c e r h z).word (with_get g r h dead).gets q t v
  died_passes q t v loaded old =
      record {
        passed =
            λ there unsafe p met gone.
            elim (place c e g k r h z mine closes booked q p) [
              | inl a ↦
                  let slots : slot c h ≡ slot c t = rw (← a.ticket) met in
                  let is : z ≡ v = sym a.word_is ∙ rw (← met) at there in
                  let stood : at_ticket c e.word r h ≡ v = stood_there q t v loaded a.ring slots is in
                  let none : is_none_in (ring_slots c) z ≡ true = rw is loaded.empty in
                  let later : cycle c h < cycle_in (ring_slots c) (at_ticket c e.word r h) = closes.later none (is ∙ sym stood) in
                  let earlier = loaded.lags.earlier in
                  let cycles : cycle_in (ring_slots c) (at_ticket c e.word r h) ≡ cycle_in (ring_slots c) v = ap (cycle_in (ring_slots c)) stood in
                  rw a.ticket (below_cycle c h t (omega arith))
              | inr (inl a) ↦
                  let slots : slot c h ≡ slot c t = sym a.slot ∙ met in
                  let is : z ≡ v = sym a.word_is ∙ rw (← met) at there in
                  let stood : at_ticket c e.word r h ≡ v = stood_there q t v loaded a.ring slots is in
                  old.passed (rw (a.ring, ← slots) stood) unsafe p met (sym a.state_is ∙ gone)
              | inr (inr a) ↦
                  old.passed (rw (← met) (sym a.word_is) ∙ there) unsafe p met (sym a.state_is ∙ gone)
            ];
      }

  pub died_moves : Moves c e g k (reworded c e r h z) (with_get g r h dead)
  died_moves =
      record {
        pends = λ j q p i apart is. is;
        lies = λ q p i w b is. is;
        opens = λ j q p apart is. updated_entry_else g.gets r h dead q p
            (λ ring ticket. apart (opened_once j q p is ring ticket)) ∙ is;
        ends = λ q p is. updated_entry_cases (λ _ _ v. v ≡ dead) g.gets r h dead q p (λ ring ticket. refl) (λ _. is);
        takes = λ q p j x is. updated_entry_else g.gets r h dead q p
            (λ ring ticket. let same : opened k ≡ took j x = sym mine ∙ rw (ring, ticket) at is in cc) ∙ is;
        holds =
            λ j q p apart is has.
            elim (place c e g k r h z mine closes booked q p) [
              | inl a ↦ absurd (apart (opened_once j q p is a.ring a.ticket))
              | inr (inl a) ↦
                  let now = is_beside c e g k r h z mine closes booked p a.slot (rw a.ring at has) in
                  record { cycle = rw a.word_is now.0; index = rw a.word_is now.1 }
              | inr (inr a) ↦ record { cycle = rw a.word_is has.cycle; index = rw a.word_is has.index }
            ];
        passes = died_passes;
      }

  pub died_effect : Effect c e g k (reworded c e r h z) (with_get g r h dead)
  died_effect = record { booked = died_booked c e g k r h z mine closes booked; moves = died_moves }
