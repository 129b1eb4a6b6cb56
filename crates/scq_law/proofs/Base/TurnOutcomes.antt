-- Each turn keeps the books. Plan: by the turn and the test that it makes, it is one of the effects; what is left to say
-- is which tickets are drawn, and what the seat's new phase claims.
use Rattle.std.proofs.Common.{◌≡◌, ℕ, ◌+◌, ◌<◌, true, false, ◌&&◌, List, length, refl, ap, ◌∙◌, inl, inr, arith, eq-eqb, ne_eqb, leb-true}
use Rattle.std.specs.Prelude.{[], ◌==◌, nat_lt, nat_le}
use Rattle.std.proofs.lemmas.Bool.{cases_Bool, cases_eq, cases_lt, leb-false, ltb-false}
use Rattle.scq_word.specs.declared.setup.Setup.{Setup}
use Rattle.scq_word.specs.Exports.{packed, safe_in, cycle_in, is_none_in}
use Rattle.scq_core.specs.declared.phase.Phase.{Phase}
use Rattle.scq_core.specs.declared.phase.Phase.TheVariants.{Idle, AtE1, AtE2, AtE3, AtE4, AtE5, AtE6, AtD1, AtD2, AtD3, AtD4, AtD5, AtD6, AtD7, AtD8, AtD9, AtD10}
use Rattle.scq_core.specs.Exports.{updated, Cells, Entries, SeatPart, tail_of, head_of, entry_of, read, beside, written, ring_slots, cycle, slot}
use Rattle.scq_core.specs.Exports.{zero_level, reset_level, location_of, after, cells_after, passed, goes_on, Drawn, Busy, word_at, stance_of}
use Rattle.scq_core.proofs.UpdatedLemmas.{updated_here, updated_same, updated_entry_here, updated_entry_same}
use Rattle.scq_core.proofs.Ranks.{counters_rise}
use Rattle.scq_law.specs.Exports.{call_of}
use Rattle.scq_law.proofs.Base.Ghosts.{Ghost, pending, failed, placed, opened, dead, waiting, with_put, with_get}
use Rattle.scq_law.proofs.Base.TicketEvents.{event, ghost_by}
use Rattle.scq_law.proofs.Base.BaseGroup.{IsBooked, IsDrawn, Claims, Knows, Passed, Holds, Effect}
use Rattle.scq_law.proofs.Base.PutEffects.{is_ours, put_effect, no_effect}
use Rattle.scq_law.proofs.Base.DrawEffects.{began_effect}
use Rattle.scq_law.proofs.Base.GiveUpEffects.{Closes, died_effect}
use Rattle.scq_law.proofs.Base.TakeEffects.{took_effect}
use Rattle.scq_law.proofs.Base.PlaceEffects.{laid_effect}
use Rattle.scq_law.proofs.Base.DrawnTickets.{drawn_rise, drawn_put, drawn_get}
use Rattle.scq_law.proofs.Base.EntryWrites.{closes_later, closes_passed, empties_marked, fills_packed}

-- what holds after a turn of seat k, which leaves these cells n, this ghost h and this part p
pub record Outcome (c : Setup) (e : Entries) (g : Ghost) (k : ℕ) (n : Cells) (h : Ghost) (p : SeatPart) : Type 0 where
  pub effect : Effect c e g k n.entries h
  pub drawn : IsDrawn c n.tail n.head h
  pub claims : Claims h k (length p.calls) (stance_of p.phase)
  pub knows : Knows c n.entries.word h.gets p.phase

-- what a turn finds
abbrev pub found : Setup → Cells → Phase → ℕ
found c m turn = read m (location_of c turn)

abbrev pub content : Setup → Cells → Phase → List ℕ
content c m turn = beside m (location_of c turn)

abbrev pub ghost_then : Setup → Cells → Ghost → ℕ → ℕ → SeatPart → Phase → Ghost
ghost_then c m g time k p turn = ghost_by (event c turn (found c m turn) (content c m turn)) time k (length p.calls) g

abbrev pub OutcomeOf : Setup → Cells → Ghost → ℕ → ℕ → SeatPart → Phase → Type 0
OutcomeOf c m g time k p turn =
    Outcome c m.entries g k (cells_after c turn m) (ghost_then c m g time k p turn) (after c turn (found c m turn) (content c m turn) p)

-- an entry that is only read
read_entry : (c : Setup) (m : Cells) (g : Ghost) (k r s : ℕ) (h : Ghost) (q : SeatPart) → Outcome c m.entries g k m h q
    → Outcome c m.entries g k (written m (entry_of r s) (m.entries.word r s) (m.entries.content r s)) h q
read_entry c m g k r s h q holds = rw (updated_entry_same m.entries.word r s, updated_entry_same m.entries.content r s) holds

-- the counters of a ring that are only read
read_tail : (c : Setup) (m : Cells) (g : Ghost) (k r : ℕ) (h : Ghost) (q : SeatPart) → Outcome c m.entries g k m h q
    → Outcome c m.entries g k (written m (tail_of r) (m.tail r) []) h q
read_tail c m g k r h q holds = rw (updated_same m.tail r) holds

read_head : (c : Setup) (m : Cells) (g : Ghost) (k r : ℕ) (h : Ghost) (q : SeatPart) → Outcome c m.entries g k m h q
    → Outcome c m.entries g k (written m (head_of r) (m.head r) []) h q
read_head c m g k r h q holds = rw (updated_same m.head r) holds

module _ (c : Setup) (m : Cells) (g : Ghost) (time k : ℕ) (p : SeatPart) (booked : IsBooked c m.entries g) (drawn : IsDrawn c m.tail m.head g) where
  quiet : Effect c m.entries g k m.entries g
  quiet = no_effect c m.entries g k booked

  -- a failed ticket
  gave_up : (r i t b : ℕ) → g.puts r t ≡ pending k i → Effect c m.entries g k m.entries (with_put g r t (failed time i b))
  gave_up r i t b mine =
      put_effect c m.entries g k r t (failed time i b) (ap (is_ours k) mine ∙ eq-eqb k k refl) refl booked

  -- a ticket that is given up while the entry's word becomes z
  gives_up : (r h z : ℕ) (q : SeatPart) → g.gets r h ≡ opened k → Drawn c (m.head r) h → Closes (ring_slots c) (word_at c m r h) z (cycle c h)
      → Outcome c m.entries g k (written m (entry_of r (slot c h)) z (m.entries.content r (slot c h))) (with_get g r h dead) (goes_on (AtD6 r h) q)
  gives_up r h z q mine low closes =
      rw (updated_entry_same m.entries.content r (slot c h))
      (record {
        effect = died_effect c m.entries g k r h z mine closes booked;
        drawn = drawn_get c m.tail m.head g r h dead low drawn;
        claims = updated_entry_here g.gets r h dead;
        knows = tt;
      })

  outcome_E1 : (r i : ℕ) (w : List ℕ) (l : ℕ) → Busy c m p.hand (AtE1 r i w l) → OutcomeOf c m g time k p (AtE1 r i w l)
  outcome_E1 r i w l busy =
      let up = counters_rise c m p.hand (AtE1 r i w l) busy in
      elim (cases_Bool (nat_le c.limit (m.tail r))) [
        | inl past ↦
            rw past
            (record { effect = quiet; drawn = drawn_rise c m (cells_after c (AtE1 r i w l) m) g up drawn; claims = tt; knows = tt })
        | inr under ↦
            let low = leb-false c.limit (m.tail r) under in
            let t = m.tail r in
            let drew : Drawn c (updated m.tail r (t + 1) r) t =
            record { first = drawn.first_tail r; below = rw (updated_here m.tail r (t + 1)) (omega arith); below_limit = low } in
            let risen = drawn_rise c m (cells_after c (AtE1 r i w l) m) g up drawn in
            rw under
            (record {
              effect =
                  put_effect c m.entries g k r t (pending k i) (ap (is_ours k) (drawn.tails r t (omega arith))) refl booked;
              drawn = drawn_put c (updated m.tail r (t + 1)) m.head g r t (pending k i) drew risen;
              claims = updated_entry_here g.puts r t (pending k i);
              knows = tt;
            })
      ]

  outcome_E2 : (r i : ℕ) (w : List ℕ) (t l : ℕ) → Busy c m p.hand (AtE2 r i w t l) → g.puts r t ≡ pending k i → OutcomeOf c m g time k p (AtE2 r i w t l)
  outcome_E2 r i w t l busy mine =
      let x = word_at c m r t in
      elim (cases_Bool (nat_lt (cycle_in (ring_slots c) x) (cycle c t) && is_none_in (ring_slots c) x)) [
        | inl fits ↦
            elim (cases_eq (safe_in (ring_slots c) x) 1) [
              | inl safe ↦
                  rw (fits, eq-eqb (safe_in (ring_slots c) x) 1 safe)
                  (read_entry c m g k r (slot c t) _ _
                  (record { effect = quiet; drawn = drawn; claims = mine; knows = record { passed = λ there unsafe h slot gone. absurd (omega arith) } }))
              | inr unsafe ↦
                  rw (fits, ne_eqb (safe_in (ring_slots c) x) 1 unsafe)
                  (read_entry c m g k r (slot c t) _ _ (record { effect = quiet; drawn = drawn; claims = mine; knows = tt }))
            ]
        | inr fails ↦
            rw fails
            (read_entry c m g k r (slot c t) _ _
            (record { effect = gave_up r i t _ mine; drawn = drawn_put c m.tail m.head g r t _ busy.1 drawn; claims = tt; knows = tt }))
      ]

  outcome_E3 : (r i : ℕ) (w : List ℕ) (t e : ℕ) → Busy c m p.hand (AtE3 r i w t e) → g.puts r t ≡ pending k i → OutcomeOf c m g time k p (AtE3 r i w t e)
  outcome_E3 r i w t e busy mine =
      elim (cases_Bool (nat_le (m.head r) t)) [
        | inl low ↦
            let under = leb-true (m.head r) t low in
            rw low
            (read_head c m g k r _ _
            (record {
              effect = quiet;
              drawn = drawn;
              claims = mine;
              knows =
                  record {
                    passed =
                        λ there unsafe h slot gone.
                        elim (cases_lt h (m.head r)) [
                          | inl below ↦ omega arith
                          | inr high ↦ let fresh = drawn.heads r h high in absurd (cc)
                        ];
                  };
            }))
        | inr fails ↦
            rw fails
            (read_head c m g k r _ _
            (record { effect = gave_up r i t _ mine; drawn = drawn_put c m.tail m.head g r t _ busy.1 drawn; claims = tt; knows = tt }))
      ]

  outcome_E4 : (r i : ℕ) (w : List ℕ) (t e : ℕ) → Busy c m p.hand (AtE4 r i w t e) → g.puts r t ≡ pending k i → Passed c m.entries.word g.gets r t e
      → OutcomeOf c m g time k p (AtE4 r i w t e)
  outcome_E4 r i w t e busy mine passed =
      let x = word_at c m r t in
      elim (cases_eq x e) [
        | inl hit ↦
            let number = length p.calls in
            let none : is_none_in (ring_slots c) x ≡ true = rw hit busy.3 in
            let lags = busy.2 in
            let earlier : cycle_in (ring_slots c) x < cycle c t = rw hit lags.earlier in
            let offers = busy.0 in
            rw (eq-eqb x e hit)
            (record {
              effect =
                  laid_effect c m.entries g k r t i (packed (ring_slots c) (cycle c t) 1 i) w (call_of k number) mine offers.index
                  (fills_packed c x t i none earlier offers.index) (rw hit passed) booked;
              drawn = drawn_put c m.tail m.head g r t _ busy.1 drawn;
              claims = updated_entry_here g.puts r t (placed i w (call_of k number));
              knows = tt;
            })
        | inr miss ↦
            rw (ne_eqb x e miss)
            (read_entry c m g k r (slot c t) _ _ (record { effect = quiet; drawn = drawn; claims = mine; knows = tt }))
      ]

  outcome_E5 : (r i : ℕ) (w : List ℕ) (t : ℕ) → g.puts r t ≡ placed i w (call_of k (length p.calls)) → OutcomeOf c m g time k p (AtE5 r i w t)
  outcome_E5 r i w t mine =
      elim (cases_Bool (m.threshold r == reset_level c)) [
        | inl high ↦ rw high (record { effect = quiet; drawn = drawn; claims = tt; knows = tt })
        | inr low ↦ rw low (record { effect = quiet; drawn = drawn; claims = mine; knows = tt })
      ]

module _ (c : Setup) (m : Cells) (g : Ghost) (time k : ℕ) (p : SeatPart) (booked : IsBooked c m.entries g) (drawn : IsDrawn c m.tail m.head g) where
  still : Effect c m.entries g k m.entries g
  still = no_effect c m.entries g k booked

  outcome_D1 : (r : ℕ) → OutcomeOf c m g time k p (AtD1 r)
  outcome_D1 r =
      elim (cases_Bool (nat_lt (m.threshold r) zero_level)) [
        | inl low ↦ rw low (record { effect = still; drawn = drawn; claims = tt; knows = tt })
        | inr high ↦ rw high (record { effect = still; drawn = drawn; claims = tt; knows = tt })
      ]

  outcome_D2 : (r l : ℕ) → Busy c m p.hand (AtD2 r l) → OutcomeOf c m g time k p (AtD2 r l)
  outcome_D2 r l busy =
      let up = counters_rise c m p.hand (AtD2 r l) busy in
      elim (cases_Bool (nat_le c.limit (m.head r))) [
        | inl past ↦
            rw past
            (record { effect = still; drawn = drawn_rise c m (cells_after c (AtD2 r l) m) g up drawn; claims = tt; knows = tt })
        | inr under ↦
            let low = leb-false c.limit (m.head r) under in
            let h = m.head r in
            let drew : Drawn c (updated m.head r (h + 1) r) h =
            record { first = drawn.first_head r; below = rw (updated_here m.head r (h + 1)) (omega arith); below_limit = low } in
            let risen = drawn_rise c m (cells_after c (AtD2 r l) m) g up drawn in
            rw under
            (record {
              effect = began_effect c m.entries g k r h (drawn.heads r h (omega arith)) booked;
              drawn = drawn_get c m.tail (updated m.head r (h + 1)) g r h (opened k) drew risen;
              claims = updated_entry_here g.gets r h (opened k);
              knows = tt;
            })
      ]

  outcome_D3 : (r h l : ℕ) → Busy c m p.hand (AtD3 r h l) → g.gets r h ≡ opened k → OutcomeOf c m g time k p (AtD3 r h l)
  outcome_D3 r h l busy mine =
      let x = word_at c m r h in
      elim (cases_eq (cycle_in (ring_slots c) x) (cycle c h)) [
        | inl same ↦
            let some : is_none_in (ring_slots c) x ≡ false =
            elim (cases_Bool (is_none_in (ring_slots c) x)) [
              | inl none ↦
                  let low = busy.1 in
                  let over = booked.over r h low.first same none in
                  let waits : waiting (g.gets r h) ≡ true = ap waiting mine in
                  absurd (cc)
              | inr has ↦ has
            ] in
            rw (eq-eqb (cycle_in (ring_slots c) x) (cycle c h) same)
            (read_entry c m g k r (slot c h) _ _
            (record { effect = still; drawn = drawn; claims = mine; knows = record { cycle = same; index = some } }))
        | inr other ↦
            elim (cases_Bool (nat_lt (cycle_in (ring_slots c) x) (cycle c h))) [
              | inl lower ↦
                  rw (ne_eqb (cycle_in (ring_slots c) x) (cycle c h) other, lower)
                  (read_entry c m g k r (slot c h) _ _ (record { effect = still; drawn = drawn; claims = mine; knows = tt }))
              | inr higher ↦
                  let high = ltb-false (cycle_in (ring_slots c) x) (cycle c h) higher in
                  let later : cycle c h < cycle_in (ring_slots c) x = omega arith in
                  rw (ne_eqb (cycle_in (ring_slots c) x) (cycle c h) other, higher)
                  (gives_up c m g time k p booked drawn r h x p mine busy.1 (closes_later (ring_slots c) x (cycle c h) later))
            ]
      ]

  outcome_D4 : (r h : ℕ) → Busy c m p.hand (AtD4 r h) → g.gets r h ≡ opened k → Holds c m.entries.word r h → OutcomeOf c m g time k p (AtD4 r h)
  outcome_D4 r h busy mine there =
      let x = word_at c m r h in
      rw (updated_entry_same m.entries.content r (slot c h))
      (record {
        effect = took_effect c m.entries g k r h _ (length p.calls) mine there (empties_marked c x) booked;
        drawn = drawn_get c m.tail m.head g r h _ busy.1 drawn;
        claims = tt;
        knows = tt;
      })

  outcome_D5 : (r h e : ℕ) → Busy c m p.hand (AtD5 r h e) → g.gets r h ≡ opened k → OutcomeOf c m g time k p (AtD5 r h e)
  outcome_D5 r h e busy mine =
      let x = word_at c m r h in
      elim (cases_eq x e) [
        | inl hit ↦
            let lags = busy.2 in
            let earlier : cycle_in (ring_slots c) x < cycle c h = rw hit lags.earlier in
            let closes : Closes (ring_slots c) x (passed c h e) (cycle c h) = rw (← hit) (closes_passed c h x earlier) in
            rw (eq-eqb x e hit) (gives_up c m g time k p booked drawn r h (passed c h e) p mine busy.1 closes)
        | inr miss ↦
            rw (ne_eqb x e miss)
            (read_entry c m g k r (slot c h) _ _ (record { effect = still; drawn = drawn; claims = mine; knows = tt }))
      ]

  outcome_D6 : (r h : ℕ) → g.gets r h ≡ dead → OutcomeOf c m g time k p (AtD6 r h)
  outcome_D6 r h mine =
      elim (cases_Bool (nat_le (m.tail r) (h + 1))) [
        | inl low ↦ rw low (read_tail c m g k r _ _ (record { effect = still; drawn = drawn; claims = mine; knows = tt }))
        | inr high ↦ rw high (read_tail c m g k r _ _ (record { effect = still; drawn = drawn; claims = mine; knows = tt }))
      ]

  outcome_D7 : (r h from to : ℕ) → Busy c m p.hand (AtD7 r h from to) → g.gets r h ≡ dead → OutcomeOf c m g time k p (AtD7 r h from to)
  outcome_D7 r h from to busy mine =
      let up = counters_rise c m p.hand (AtD7 r h from to) busy in
      let risen = drawn_rise c m (cells_after c (AtD7 r h from to) m) g up drawn in
      elim (cases_eq (m.tail r) from) [
        | inl hit ↦
            let same = eq-eqb (m.tail r) from hit in
            rw same (record { effect = still; drawn = rw same at risen; claims = mine; knows = tt })
        | inr miss ↦
            rw (ne_eqb (m.tail r) from miss)
            (read_tail c m g k r _ _ (record { effect = still; drawn = drawn; claims = mine; knows = tt }))
      ]

  outcome_D9 : (r h from to : ℕ) → g.gets r h ≡ dead → OutcomeOf c m g time k p (AtD9 r h from to)
  outcome_D9 r h from to mine =
      elim (cases_Bool (nat_le to (m.tail r))) [
        | inl low ↦ rw low (read_tail c m g k r _ _ (record { effect = still; drawn = drawn; claims = mine; knows = tt }))
        | inr high ↦ rw high (read_tail c m g k r _ _ (record { effect = still; drawn = drawn; claims = mine; knows = tt }))
      ]

  outcome_D10 : (r h : ℕ) → g.gets r h ≡ dead → OutcomeOf c m g time k p (AtD10 r h false)
  outcome_D10 r h mine =
      elim (cases_Bool (nat_le (m.threshold r) zero_level)) [
        | inl low ↦ rw low (record { effect = still; drawn = drawn; claims = tt; knows = tt })
        | inr high ↦ rw high (record { effect = still; drawn = drawn; claims = tt; knows = tt })
      ]

  -- every turn
  pub outcome : (turn : Phase) → (turn ≡ Idle → ⊥) → Busy c m p.hand turn → Claims g k (length p.calls) (stance_of turn) → Knows c m.entries.word g.gets turn
      → OutcomeOf c m g time k p turn
  outcome Idle awake busy claims knows = absurd (awake refl)
  outcome (AtE1 r i w l) awake busy claims knows = outcome_E1 c m g time k p booked drawn r i w l busy
  outcome (AtE2 r i w t l) awake busy claims knows = outcome_E2 c m g time k p booked drawn r i w t l busy claims
  outcome (AtE3 r i w t e) awake busy claims knows = outcome_E3 c m g time k p booked drawn r i w t e busy claims
  outcome (AtE4 r i w t e) awake busy claims knows = outcome_E4 c m g time k p booked drawn r i w t e busy claims knows
  outcome (AtE5 r i w t) awake busy claims knows = outcome_E5 c m g time k p booked drawn r i w t claims
  outcome (AtE6 r i w t) awake busy claims knows = record { effect = still; drawn = drawn; claims = tt; knows = tt }
  outcome (AtD1 r) awake busy claims knows = outcome_D1 r
  outcome (AtD2 r l) awake busy claims knows = outcome_D2 r l busy
  outcome (AtD3 r h l) awake busy claims knows = outcome_D3 r h l busy claims
  outcome (AtD4 r h) awake busy claims knows = outcome_D4 r h busy claims knows
  outcome (AtD5 r h e) awake busy claims knows = outcome_D5 r h e busy claims
  outcome (AtD6 r h) awake busy claims knows = outcome_D6 r h claims
  outcome (AtD7 r h from to) awake busy claims knows = outcome_D7 r h from to busy claims
  outcome (AtD8 r h from) awake busy claims knows =
      read_head c m g k r _ _ (record { effect = still; drawn = drawn; claims = claims; knows = tt })
  outcome (AtD9 r h from to) awake busy claims knows = outcome_D9 r h from to claims
  outcome (AtD10 r h true) awake busy claims knows =
      record { effect = still; drawn = drawn; claims = tt; knows = tt }
  outcome (AtD10 r h false) awake busy claims knows = outcome_D10 r h claims
