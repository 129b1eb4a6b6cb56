-- Why an enqueue fails with its ticket at an entry: Head is past the ticket, or a live place of the slot blocks it.
-- Plan: the ticket of the entry's cycle in this slot. Without an index it is over, so below Head, and no lower than the
-- ticket; with an index it is live, and it isn't the ticket, which is pending.
use Rattle.std.proofs.Common.{◌≡◌, ◌≢◌, ℕ, ◌<◌, ◌≤◌, true, false, ◌&&◌, ◌⊎◌, inl, inr, refl, ap, sym, List, arith, lt-ltb}
use Rattle.std.specs.Prelude.{nat_lt}
use Rattle.std.proofs.lemmas.Bool.{cases_Bool, cases_lt, and_from}
use Rattle.scq_word.specs.declared.setup.Setup.{Setup}
use Rattle.scq_word.specs.Exports.{index_in, cycle_in, is_none_in}
use Rattle.scq_word.proofs.TicketLemmas.{ticket_in, slot_of-ticket_in, cycle_of-ticket_in, lower_ticket}
use Rattle.scq_core.specs.Exports.{Entries, ring_slots, cycle, slot}
use Rattle.scq_core.proofs.Entries.{some_slots}
use Rattle.scq_law.specs.Exports.{Maker}
use Rattle.scq_law.proofs.Base.Ghosts.{Ghost, PutState, fresh, pending, failed, placed, is_placed, waiting}
use Rattle.scq_law.proofs.Base.EventFacts.{Live, Blocks}
use Rattle.scq_law.proofs.Base.BaseGroup.{IsBooked, IsDrawn, Holds, at_ticket}

-- what is placed at a ticket
pub record Placement (g : Ghost) (r p : ℕ) : Type 0 where
  pub index : ℕ
  pub content : List ℕ
  pub maker : Maker
  pub is : g.puts r p ≡ placed index content maker

pub placement : (g : Ghost) (r p : ℕ) → is_placed (g.puts r p) ≡ true → Placement g r p
placement g r p yes_placed = go (g.puts r p) refl yes_placed
  where
    go : (x : PutState) → g.puts r p ≡ x → is_placed x ≡ true → Placement g r p
    go fresh is has = absurd (cc)
    go (pending j i) is has = absurd (cc)
    go (failed y d b) is has = absurd (cc)
    go (placed i w b) is has = record { index = i; content = w; maker = b; is = is }

-- where an index stands, that index is live
pub live_at : (c : Setup) (e : Entries) (g : Ghost) (r p : ℕ) → IsBooked c e g → Holds c e.word r p
    → Live g r p (index_in (ring_slots c) (at_ticket c e.word r p))
live_at c e g r p booked has =
    let both = booked.live r p has in
    let at = placement g r p both.0 in
    let stands = booked.stands r p at.index at.content at.maker at.is both.1 in
    record { content = at.content; maker = at.maker; is = rw stands.index at.is; waits = both.1 }

-- a live place is no pending ticket
not_pending : (g : Ghost) (k r i t p j : ℕ) → g.puts r t ≡ pending k i → Live g r p j → p ≢ t
not_pending g k r i t p j mine live same =
    let there : is_placed (g.puts r p) ≡ true = ap is_placed live.is in
    let not : is_placed (g.puts r t) ≡ false = ap is_placed mine in
    absurd (cc)

-- a ticket that nobody may take from any more is below Head
pub over_below : (c : Setup) (tail head : ℕ → ℕ) (g : Ghost) (r p : ℕ) → IsDrawn c tail head g → waiting (g.gets r p) ≡ false → p < head r
over_below c tail head g r p drawn over =
    elim (cases_lt p (head r)) [
      | inl less ↦ less
      | inr high ↦
          let waits : waiting (g.gets r p) ≡ true = ap waiting (drawn.heads r p high) in absurd (cc)
    ]

pub fail_cause : (c : Setup) (e : Entries) (g : Ghost) (tail head : ℕ → ℕ) (k r i t : ℕ) → IsBooked c e g → IsDrawn c tail head g → ring_slots c ≤ t
    → g.puts r t ≡ pending k i
    → (nat_lt (cycle_in (ring_slots c) (at_ticket c e.word r t)) (cycle c t) && is_none_in (ring_slots c) (at_ticket c e.word r t)) ≡ false
    → (t < head r) ⊎ Blocks c g r t (index_in (ring_slots c) (at_ticket c e.word r t))
fail_cause c e g tail head k r i t booked drawn first mine fails =
    let x = at_ticket c e.word r t in
    let q = ticket_in (ring_slots c) t (cycle_in (ring_slots c) x) in
    let slot : slot c q ≡ slot c t = slot_of-ticket_in c.order t (cycle_in (ring_slots c) x) in
    let turn : cycle c q ≡ cycle_in (ring_slots c) x = cycle_of-ticket_in (ring_slots c) t (cycle_in (ring_slots c) x) (some_slots c) in
    let at_q : at_ticket c e.word r q ≡ x = ap (e.word r) slot in
    elim (cases_Bool (is_none_in (ring_slots c) x)) [
      | inl none ↦
          let high : cycle c t ≤ cycle_in (ring_slots c) x =
          elim (cases_lt (cycle_in (ring_slots c) x) (cycle c t)) [
            | inl lower ↦
                let both = and_from (nat_lt (cycle_in (ring_slots c) x) (cycle c t)) (is_none_in (ring_slots c) x)
                (lt-ltb (cycle_in (ring_slots c) x) (cycle c t) lower) none in
                absurd (cc)
            | inr higher ↦ higher
          ] in
          let above : t ≤ q =
          elim (cases_lt q t) [
            | inl less ↦ let lower = lower_ticket c.order q t slot less in absurd (omega arith)
            | inr not ↦ not
          ] in
          let over = booked.over r q (omega arith) (rw at_q (sym turn)) (rw at_q none) in
          let below = over_below c tail head g r q drawn over in
          inl (omega arith)
      | inr some ↦
          let has : Holds c e.word r q = record { cycle = rw at_q (sym turn); index = rw at_q some } in
          let live : Live g r q (index_in (ring_slots c) x) = rw at_q at (live_at c e g r q booked has) in
          inr
          (record {
            place = q;
            slot = slot;
            other = not_pending g k r i t q (index_in (ring_slots c) x) mine live;
            live = live;
          })
    ]
