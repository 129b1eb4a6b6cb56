-- The public law that each index has one home. Plan: a home and a spot of the tickets' states are the same thing.
use Rattle.std.proofs.Common.{◌≡◌, ℕ, ◌<◌, false, refl, ap, sym, ◌∙◌, inl, inr, arith, ne_eqb}
use Rattle.std.proofs.lemmas.Bool.{cases_lt}
use Rattle.scq_word.specs.declared.setup.Setup.{Setup}
use Rattle.scq_word.specs.Exports.{n_of, index_in, cycle_in, is_none_in}
use Rattle.scq_word.proofs.TicketLemmas.{ticket_in, slot_of_small, slot_of-onto, slot_of-ticket_in, cycle_of-ticket_in}
use Rattle.scq_core.specs.Exports.{SeatPart, ring_slots, cycle, slot, holds_index, IsReachable}
use Rattle.scq_core.specs.Machine.{Machine}
use Rattle.scq_core.proofs.Entries.{some_slots, below_mark}
use Rattle.scq_law.specs.Exports.{Home, hand_of, in_slot, IsHome, IsSeen, OneHand}
use Rattle.scq_law.proofs.Base.Ghosts.{Ghost}
use Rattle.scq_law.proofs.Base.Traces.{has_trace}
use Rattle.scq_law.proofs.Base.EventFacts.{Live}
use Rattle.scq_law.proofs.Base.BaseGroup.{Holds, at_ticket}
use Rattle.scq_law.proofs.Window.FailCauses.{live_at}
use Rattle.scq_law.proofs.Base.Based.{IsBased, based}
use Rattle.scq_law.proofs.Places.HandLemmas.{times_seen, seen_times}
use Rattle.scq_law.proofs.Places.OneSpot.{Spot, in_hand, at_place, IsAtSpot, IsAtOneSpot}
use Rattle.scq_law.proofs.Places.ReachedTickets.{IsReached}
use Rattle.scq_law.proofs.Places.Throughout.{once, reached, small}

-- the home that a spot is
abbrev home_of : Setup → Spot → Home
home_of c (in_hand k) = hand_of k
home_of c (at_place r t) = in_slot r (slot c t)

-- a spot of this home, where the index is
record Spotted (c : Setup) (g : Ghost) (m : Machine) (i : ℕ) (h : Home) : Type 0 where
  spot : Spot
  is : IsAtSpot g m i spot
  home : home_of c spot ≡ h

-- the place of an entry's index, which is live there
pub record PlaceIn (c : Setup) (g : Ghost) (m : Machine) (r s : ℕ) : Type 0 where
  pub place : ℕ
  pub live : Live g r place (index_in (ring_slots c) (m.cells.entries.word r s))
  pub slot : slot c place ≡ s
  pub cycle : cycle c place ≡ cycle_in (ring_slots c) (m.cells.entries.word r s)

module _ (c : Setup) (g : Ghost) (m : Machine) (base : IsBased c g m) where
  pub stood_at : (r s : ℕ) → s < ring_slots c → is_none_in (ring_slots c) (m.cells.entries.word r s) ≡ false → PlaceIn c g m r s
  stood_at r s low some =
      let word = m.cells.entries.word in
      let at = slot_of-onto c.order s low in
      let x = word r s in
      let q = ticket_in (ring_slots c) at.0 (cycle_in (ring_slots c) x) in
      let slot : slot c q ≡ s = slot_of-ticket_in c.order at.0 (cycle_in (ring_slots c) x) ∙ at.1 in
      let turn : cycle c q ≡ cycle_in (ring_slots c) x = cycle_of-ticket_in (ring_slots c) at.0 (cycle_in (ring_slots c) x) (some_slots c) in
      let is_x : at_ticket c word r q ≡ x = ap (word r) slot in
      let has : Holds c word r q = record { cycle = rw is_x (sym turn); index = rw is_x some } in
      let live : Live g r q (index_in (ring_slots c) (at_ticket c word r q)) = live_at c m.cells.entries g r q base.booked has in
      record { place = q; live = rw is_x at live; slot = slot; cycle = turn }

  spotted : (i : ℕ) (h : Home) → i < n_of c.order → IsSeen c m i h → Spotted c g m i h
  spotted i (hand_of k) low seen =
      record { spot = in_hand k; is = times_seen (m.part k).hand i seen; home = refl }
  spotted i (in_slot r s) low seen =
      let index = seen.1 in
      let mark = below_mark c i low in
      let some : is_none_in (ring_slots c) (m.cells.entries.word r s) ≡ false = ne_eqb _ _ (λ e. omega arith) in
      let at = stood_at r s seen.0 some in
      record { spot = at_place r at.place; is = moved_to r at.place _ i index at.live; home = ap (in_slot r) at.slot }
    where
      moved_to : (r q x i : ℕ) → x ≡ i → Live g r q x → Live g r q i
      moved_to r q x i same live = rw same at live

  settled : IsAtOneSpot c g m → IsReached c g m → (i : ℕ) → i < n_of c.order → (h : Home) × IsHome c m i h
  settled once reach i low = let was = once.somewhere i low in go was.0 was.1
    where
      go : (s : Spot) → IsAtSpot g m i s → (h : Home) × IsHome c m i h
      go (in_hand k) at =
          let some = seen_times (m.part k).hand i at in
          let few = once.single k i in
          let seat : k < c.seats =
          elim (cases_lt k c.seats) [
            | inl low ↦ low
            | inr high ↦
                let none : holds_index (m.part k).hand i ≡ false = ap (λ (p : SeatPart). holds_index p.hand i) (reach.absent k high) in
                absurd (cc)
          ] in
          (hand_of k, (seat, omega arith))
      go (at_place r t) at =
          let stands = base.booked.stands r t i at.content at.maker at.is at.waits in
          let ring : r < c.rings =
          elim (cases_lt r c.rings) [
            | inl low ↦ low
            | inr high ↦ let fresh_there = reach.rings r t high in let is = at.is in absurd (cc)
          ] in
          (in_slot r (slot c t), (ring, slot_of_small c.order t, stands.index))

-- the law, of every reachable state
pub one_hand : (c : Setup) (m : Machine) → IsReachable c m → OneHand c m
one_hand c m reach =
    let past = has_trace c m reach in let base = based c past.time past.ghost m past.trace in
    let one = once c past.time past.ghost m past.trace in
    let reach_g = reached c past.time past.ghost m past.trace in
    let few = small c past.time past.ghost m past.trace in
    record {
      home = settled c past.ghost m base one reach_g;
      alone =
          λ i h l low seen_h seen_l.
          let a = spotted c past.ghost m base i h low seen_h in
          let b = spotted c past.ghost m base i l low seen_l in
          let same : a.spot ≡ b.spot = one.alone i a.spot b.spot a.is b.is in
          sym a.home ∙ ap (home_of c) same ∙ b.home;
      in_hands = λ i k some. few.hands k i (times_seen (m.part k).hand i some);
      in_entries =
          λ r s low some.
          let at = stood_at c past.ghost m base r s low some in
          few.places r at.place (index_in (ring_slots c) (m.cells.entries.word r s)) at.live.content at.live.maker at.live.is;
    }
