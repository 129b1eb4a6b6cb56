-- An enqueue places its index at its ticket, in an entry without an index and of an earlier cycle.
-- Plan: first the ticket's own get can neither have been given up nor taken; then the books by where a place is.
use Rattle.std.proofs.Common.{◌≡◌, ℕ, List, ◌<◌, ◌⊎◌, inl, inr, true, false, ap, sym, ◌∙◌, refl, arith}
use Rattle.scq_word.specs.declared.setup.Setup.{Setup}
use Rattle.scq_word.specs.Exports.{n_of, index_in, cycle_in, is_none_in}
use Rattle.scq_word.proofs.TicketLemmas.{lower_ticket}
use Rattle.scq_core.specs.Exports.{Entries, updated_entry, ring_slots, cycle, slot}
use Rattle.scq_core.proofs.UpdatedLemmas.{updated_entry_here, updated_entry_or}
use Rattle.scq_law.specs.Exports.{Maker}
use Rattle.scq_law.proofs.Base.Ghosts.{Ghost, PutState, GetState, unopened, opened, dead, took, placed, pending, is_placed, waiting, with_put}
use Rattle.scq_law.proofs.Base.BaseGroup.{updated_entry_else, IsBooked, Holds, Stands, Passed, Moves, Effect, at_ticket}
use Rattle.scq_law.proofs.Base.PlaceCases.{Here, Beside, IsOtherSlot, places}

-- a word e without an index and of a cycle before d becomes z, which has the index i at the cycle d and is safe
pub record Fills (s e z d i : ℕ) : Type 0 where
  pub none : is_none_in s e ≡ true
  pub earlier : cycle_in s e < d
  pub cycle : cycle_in s z ≡ d
  pub some : is_none_in s z ≡ false
  pub index : index_in s z ≡ i

-- the entries with the word and the content of a ticket's slot changed
abbrev pub refilled : Setup → Entries → ℕ → ℕ → ℕ → List ℕ → Entries
refilled c e r t z w =
    record { word = updated_entry e.word r (slot c t) z; content = updated_entry e.content r (slot c t) w }

module _ (c : Setup) (e : Entries) (g : Ghost) (k r t i z : ℕ) (w : List ℕ) (b : Maker) (mine : g.puts r t ≡ pending k i) (small : i < n_of c.order)
    (fills : Fills (ring_slots c) (at_ticket c e.word r t) z (cycle c t) i) (passed : Passed c e.word g.gets r t (at_ticket c e.word r t))
    (booked : IsBooked c e g) where
  -- a ticket of the slot that was given up is lower
  gone_lower : (p : ℕ) → slot c p ≡ slot c t → g.gets r p ≡ dead → cycle c p < cycle c t
  gone_lower p slot gone =
      elim (rw slot at (booked.shut r p gone)) [
        | inl at ↦ let earlier = fills.earlier in omega arith
        | inr unsafe ↦ lower_ticket c.order p t slot (passed.passed refl unsafe p slot gone)
      ]

  -- what is placed there may be taken
  pub laid_waits : waiting (g.gets r t) ≡ true
  laid_waits = go (g.gets r t) refl
    where
      go : (x : GetState) → g.gets r t ≡ x → waiting x ≡ true
      go unopened is = refl
      go (opened j) is = refl
      go dead is = let lower = gone_lower t refl is in absurd (omega arith)
      go (took j x) is =
          let was : is_placed (g.puts r t) ≡ true = booked.taken r t j x is in
          let not : is_placed (g.puts r t) ≡ false = ap is_placed mine in
          absurd (cc)

  abbrev place : (q p : ℕ)
      → Here ℕ PutState c e.word z g.puts (placed i w b) r t q p
      ⊎ (Beside ℕ PutState c e.word z g.puts (placed i w b) r t q p ⊎ IsOtherSlot ℕ PutState c e.word z g.puts (placed i w b) r t q p)
  place q p = places c e.word z g.puts (placed i w b) r t q p

  laid_live : (q p : ℕ) → Holds c (refilled c e r t z w).word q p
      → (is_placed ((with_put g r t (placed i w b)).puts q p) ≡ true) × (waiting (g.gets q p) ≡ true)
  laid_live q p has =
      elim (place q p) [
        | inl a ↦ (rw a.state_is refl, rw (a.ring, a.ticket) laid_waits)
        | inr (inl a) ↦
            let at_z : cycle_in (ring_slots c) z ≡ cycle c p = rw a.word_is at has.cycle in
            absurd (a.turn (sym at_z ∙ fills.cycle))
        | inr (inr a) ↦
            let old = booked.live q p (record { cycle = rw a.word_is at has.cycle; index = rw a.word_is at has.index }) in
            (rw a.state_is old.0, old.1)
      ]

  laid_stands : (q p j : ℕ) (v : List ℕ) (d : Maker) → (with_put g r t (placed i w b)).puts q p ≡ placed j v d → waiting (g.gets q p) ≡ true
      → Stands c (refilled c e r t z w) q p j v
  laid_stands q p j v d is waits =
      elim (place q p) [
        | inl a ↦
            let same : placed i w b ≡ placed j v d = sym a.state_is ∙ is in
            let index : i ≡ j = cc in
            let content : w ≡ v = cc in
            record {
              holds = record { cycle = rw (a.word_is, a.ticket) fills.cycle; index = rw a.word_is fills.some };
              index = rw a.word_is (fills.index ∙ index);
              content = rw (a.ring, a.ticket) (updated_entry_here e.content r (slot c t) w ∙ content);
              small = rw (← index) small;
            }
        | inr (inl a) ↦
            let old = booked.stands q p j v d (sym a.state_is ∙ is) waits in
            let some : is_none_in (ring_slots c) (at_ticket c e.word r t) ≡ false = rw (a.ring, a.slot) at old.holds.index in
            let none = fills.none in
            absurd (cc)
        | inr (inr a) ↦
            let old = booked.stands q p j v d (sym a.state_is ∙ is) waits in
            record {
              holds = record { cycle = rw a.word_is old.holds.cycle; index = rw a.word_is old.holds.index };
              index = rw a.word_is old.index;
              content =
                  elim (updated_entry_or e.content r (slot c t) w q (slot c p)) [
                    | inl x ↦ absurd (a.apart x.0 x.1)
                    | inr x ↦ x.1 ∙ old.content
                  ];
              small = old.small;
            }
      ]

  laid_booked : IsBooked c (refilled c e r t z w) (with_put g r t (placed i w b))
  laid_booked =
      record {
        live = laid_live;
        stands = laid_stands;
        over = λ q p first at none. elim (place q p) [
          | inl a ↦ let not : is_none_in (ring_slots c) z ≡ true = rw a.word_is at none in let some = fills.some in absurd (cc)
          | inr (inl a) ↦
              let not : is_none_in (ring_slots c) z ≡ true = rw a.word_is at none in let some = fills.some in absurd (cc)
          | inr (inr a) ↦ booked.over q p first (rw a.word_is at at) (rw a.word_is at none)
        ];
        taken =
            λ q p j x got.
            elim (place q p) [
              | inl a ↦ rw a.state_is refl
              | inr (inl a) ↦ rw a.state_is (booked.taken q p j x got)
              | inr (inr a) ↦ rw a.state_is (booked.taken q p j x got)
            ];
        never =
            λ q p gone.
            elim (place q p) [
              | inl a ↦
                  let here : g.gets r t ≡ dead = rw (a.ring, a.ticket) at gone in
                  let lower = gone_lower t refl here in
                  absurd (omega arith)
              | inr (inl a) ↦ rw a.state_is (booked.never q p gone)
              | inr (inr a) ↦ rw a.state_is (booked.never q p gone)
            ];
        shut =
            λ q p gone.
            elim (place q p) [
              | inl a ↦ rw (a.word_is, a.ticket) (inl (rw fills.cycle (omega arith)))
              | inr (inl a) ↦
                  let here : g.gets r p ≡ dead = rw a.ring at gone in
                  let lower = gone_lower p a.slot here in
                  rw (a.word_is, fills.cycle) (inl (omega arith))
              | inr (inr a) ↦ rw a.word_is (booked.shut q p gone)
            ];
      }

module _ (c : Setup) (e : Entries) (g : Ghost) (k r t i z : ℕ) (w : List ℕ) (b : Maker) (mine : g.puts r t ≡ pending k i) (small : i < n_of c.order)
    (fills : Fills (ring_slots c) (at_ticket c e.word r t) z (cycle c t) i) (passed : Passed c e.word g.gets r t (at_ticket c e.word r t))
    (booked : IsBooked c e g) where
  laid_moves : Moves c e g k (refilled c e r t z w) (with_put g r t (placed i w b))
  laid_moves =
      record {
        pends = λ j q p x apart is. updated_entry_else g.puts r t (placed i w b) q p
            (λ ring ticket. let same : pending k i ≡ pending j x = sym mine ∙ rw (ring, ticket) at is in let own : j ≡ k = cc in apart own) ∙ is;
        lies = λ q p x v d is. updated_entry_else g.puts r t (placed i w b) q p
            (λ ring ticket. let same : pending k i ≡ placed x v d = sym mine ∙ rw (ring, ticket) at is in cc) ∙ is;
        opens = λ j q p apart is. is;
        ends = λ q p is. is;
        takes = λ q p j x is. is;
        holds =
            λ j q p apart is has.
            elim (place c e g k r t i z w b mine small fills passed booked q p) [
              | inl a ↦
                  let some : is_none_in (ring_slots c) (at_ticket c e.word r t) ≡ false = rw (a.ring, a.ticket) at has.index in
                  let none = fills.none in
                  absurd (cc)
              | inr (inl a) ↦
                  let some : is_none_in (ring_slots c) (at_ticket c e.word r t) ≡ false = rw (a.ring, a.slot) at has.index in
                  let none = fills.none in
                  absurd (cc)
              | inr (inr a) ↦ record { cycle = rw a.word_is has.cycle; index = rw a.word_is has.index }
            ];
        passes =
            λ q u v loaded old.
            record {
              passed =
                  λ stands unsafe p slot gone.
                  elim (place c e g k r t i z w b mine small fills passed booked q u) [
                    | inl a ↦
                        let is : z ≡ v = sym a.word_is ∙ stands in
                        let none : is_none_in (ring_slots c) z ≡ true = rw is loaded.empty in
                        let some = fills.some in
                        absurd (cc)
                    | inr (inl a) ↦
                        let is : z ≡ v = sym a.word_is ∙ stands in
                        let none : is_none_in (ring_slots c) z ≡ true = rw is loaded.empty in
                        let some = fills.some in
                        absurd (cc)
                    | inr (inr a) ↦ old.passed (sym a.word_is ∙ stands) unsafe p slot gone
                  ];
            };
      }

  pub laid_effect : Effect c e g k (refilled c e r t z w) (with_put g r t (placed i w b))
  laid_effect = record { booked = laid_booked c e g k r t i z w b mine small fills passed booked; moves = laid_moves }
