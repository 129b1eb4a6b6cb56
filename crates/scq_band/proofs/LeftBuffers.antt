-- Once all slots that were out are at home, each slot is; and an index that is in no hand stands for a put that was not got.
-- Plan: an index is in a hand, whose slots were brought home, or in an entry, whose slot is at home with the put's bytes.
use Rattle.std.proofs.Common.{◌≡◌, ℕ, ◌<◌, false, List, [], length, sym, ◌∙◌, ap, subst, arith, ne_eqb}
use Rattle.std.specs.Prelude.{Some, slice_get, slice_index_or, sum_by}
use Rattle.std.specs.List.{Contains}
use mathlib.Core.Option as maybe
use Rattle.scq_word.specs.declared.setup.Setup.{Setup}
use Rattle.scq_word.specs.Exports.{n_of, index_in, cycle_in, is_none_in, mark_of}
use Rattle.scq_core.specs.declared.ended.Ended.TheVariants.{Got}
use Rattle.scq_core.specs.Exports.{SeatPart, total, ring_slots, slot, IsReachable}
use Rattle.scq_core.specs.Machine.{Machine}
use Rattle.scq_core.proofs.Counts.{total_one}
use Rattle.scq_core.proofs.Entries.{below_mark}
use Rattle.scq_law.specs.Exports.{times, Home, hand_of, in_slot, IsHome, StandsFor}
use Rattle.scq_law.proofs.Places.HandLaws.{one_hand}
use Rattle.scq_law.proofs.Places.EntryLaws.{stands_placed}
use Rattle.scq_band.specs.Exports.{Member, Scene, Has, Owns, Stored, IsLeft, EachLeftIsItsPut, StandsAtItsPut}
use Rattle.scq_band.proofs.AllSeats.{AreAllSeats, seat_at, total_all, member_at}
use Rattle.scq_band.proofs.ClosedRecords.{member_records, AllRest, was_put_by, call_ended}
use Rattle.scq_band.proofs.ClosedCounts.{sum_by-map, hands_of}

-- all slots of each member's hand were brought home
abbrev pub AllBrought : List Member → Type 0
AllBrought xs =
    (a : ℕ) (x : Member) → slice_get xs a ≡ Some x → (i : ℕ) → 0 < times i x.part.hand → (w : List ℕ) × Contains x.brought (i, w)

-- an index in an entry
pub record InEntry (c : Setup) (m : Machine) (i : ℕ) : Type 0 where
  pub ring : ℕ
  pub slot : ℕ
  pub low : slot < ring_slots c
  pub is : index_in (ring_slots c) (m.cells.entries.word ring slot) ≡ i
  pub full : is_none_in (ring_slots c) (m.cells.entries.word ring slot) ≡ false

in_entry : (c : Setup) (m : Machine) (i r s : ℕ) → i < n_of c.order → IsHome c m i (in_slot r s) → InEntry c m i
in_entry c m i r s small at =
    record {
      ring = r;
      slot = s;
      low = at.1;
      is = at.2;
      full = ne_eqb _ _ (λ e. let mark = below_mark c i small in let same : i ≡ mark_of (ring_slots c) = sym at.2 ∙ e in absurd (omega (arith, same, mark)));
    }

module _ {S : Type 0} (Lies : ℕ → S → List ℕ → Type 0) where
  -- the slot of an index in an entry is at home
  pub entry_home : (c : Setup) (m : Machine) (homes : List (maybe.Option S)) (i : ℕ) → Stored Lies c m.cells.entries homes → (e : InEntry c m i)
      → Has Lies homes i (m.cells.entries.content e.ring e.slot)
  entry_home c m homes i stored e =
      subst (λ j. Has Lies homes j (m.cells.entries.content e.ring e.slot)) e.is (stored e.ring e.slot e.low e.full)

  -- each slot is at home
  pub all_home : (c : Setup) (z : Scene) (homes : List (maybe.Option S)) (id : ℕ) (xs : List Member) → IsReachable c z.state → AreAllSeats c z.state xs
      → AllBrought xs → Owns Lies c z homes id xs → Stored Lies c z.state.cells.entries homes → (i : ℕ) → i < n_of c.order → (w : List ℕ) × Has Lies homes i w
  all_home c z homes id xs reach all brought owns stored i small = go at.0 at.1
    where
      at : (h : Home) × IsHome c z.state i h
      at = (one_hand c z.state reach).home i small

      go : (h : Home) → IsHome c z.state i h → (w : List ℕ) × Has Lies homes i w
      go (hand_of k) is =
          let seat = seat_at c z.state xs all k is.0 in
          let x = seat.member in
          let part : z.state.part k ≡ x.part = ap z.state.part (sym seat.is) ∙ all.part seat.at x seat.here in
          let held : 0 < times i x.part.hand = let once : times i (z.state.part k).hand ≡ 1 = is.1 in rw (← part) (omega (arith, once)) in
          let home = brought seat.at x seat.here i held in
          (home.0, ((member_at Lies c z homes id xs owns seat.at x seat.here).brought (i, home.0) home.1).1)
      go (in_slot r s) is =
          let e = in_entry c z.state i r s small is in
          (z.state.cells.entries.content e.ring e.slot, entry_home c z.state homes i stored e)

module _ (c : Setup) (m : Machine) (xs : List Member) (reach : IsReachable c m) (all : AreAllSeats c m xs) (rest : AllRest xs) where
  -- an index in no hand is in an entry
  pub left_entry : (i : ℕ) → i < n_of c.order → IsLeft (hands_of xs) i → InEntry c m i
  left_entry i small left = go at.0 at.1
    where
      at : (h : Home) × IsHome c m i h
      at = (one_hand c m reach).home i small

      go : (h : Home) → IsHome c m i h → InEntry c m i
      go (hand_of k) is =
          let sums : sum_by (times i) (hands_of xs) ≡ total (λ p. times i p.hand) m.part c.seats =
          sum_by-map (times i) (λ (x : Member). x.part.hand) xs ∙ sym (total_all c m xs (λ (p : SeatPart). times i p.hand) all) in
          let one = total_one (λ p. times i p.hand) m.part c.seats k is.0 in
          let once = is.1 in
          absurd (omega (arith, sums, left, one, once))
      go (in_slot r s) is = in_entry c m i r s small is

  stands : (i : ℕ) (small : i < n_of c.order) (left : IsLeft (hands_of xs) i)
      → StandsFor c m (left_entry i small left).ring (left_entry i small left).slot
  stands i small left =
      let e = left_entry i small left in stands_placed c m e.ring e.slot reach e.low e.full

  pub lefts_are_puts : (bytes : List (List ℕ)) → length m.opening ≡ n_of c.order
      → ((i : ℕ) (small : i < n_of c.order) (left : IsLeft (hands_of xs) i)
      → m.cells.entries.content (left_entry i small left).ring (left_entry i small left).slot ≡ slice_index_or bytes i [])
      → EachLeftIsItsPut c m.opening (member_records xs) (hands_of xs) bytes
  lefts_are_puts bytes count same =
      record {
        put =
            λ i small left.
            let e = left_entry i small left in
            let s = stands i small left in
            record {
              ring = e.ring;
              place = s.place;
              put = rw (← same i small left) (was_put_by c m xs reach all rest e.ring s.place _ s.maker count s.placed);
              not_got =
                  λ v has.
                  let at = call_ended c m xs reach all rest has.seat has.number (Got e.ring s.place v) has.is in
                  s.untaken v at.0.number has.number at.2;
            };
        apart =
            λ i j a b x y ring place.
            let one = stands i a x in
            let other = stands j b y in
            let slots : (left_entry i a x).slot ≡ (left_entry j b y).slot = sym one.slot ∙ ap (slot c) place ∙ other.slot in
            let words : m.cells.entries.word (left_entry i a x).ring (left_entry i a x).slot
            ≡ m.cells.entries.word (left_entry j b y).ring (left_entry j b y).slot =
            ap (λ r. m.cells.entries.word r (left_entry i a x).slot) ring ∙ ap (m.cells.entries.word (left_entry j b y).ring) slots in
            sym (left_entry i a x).is ∙ ap (index_in (ring_slots c)) words ∙ (left_entry j b y).is;
      }

-- where the slots at home have the bytes that are told, each such index stands at the place of its put
pub lefts_stand : {S : Type 0} (Lies : ℕ → S → List ℕ → Type 0) (c : Setup) (m : Machine) (xs : List Member) (homes : List (maybe.Option S))
    (bytes : List (List ℕ)) → IsReachable c m → AreAllSeats c m xs → AllRest xs → length m.opening ≡ n_of c.order → Stored Lies c m.cells.entries homes
    → ((i : ℕ) (w : List ℕ) → i < n_of c.order → Has Lies homes i w → slice_index_or bytes i [] ≡ w)
    → (i : ℕ) → i < n_of c.order → IsLeft (hands_of xs) i → StandsAtItsPut c m.opening (member_records xs) m i (slice_index_or bytes i [])
lefts_stand Lies c m xs homes bytes reach all rest count stored tells i small left =
    let e = left_entry c m xs reach all rest i small left in
    let s = stands c m xs reach all rest i small left in
    let same : m.cells.entries.content e.ring e.slot ≡ slice_index_or bytes i [] = sym (tells i _ small (entry_home Lies c m homes i stored e)) in
    record {
      ring = e.ring;
      place = s.place;
      index = ap (λ p. index_in (ring_slots c) (m.cells.entries.word e.ring p)) s.slot ∙ e.is;
      cycle_is = ap (λ p. cycle_in (ring_slots c) (m.cells.entries.word e.ring p)) s.slot ∙ s.cycle;
      put = rw (← same) (was_put_by c m xs reach all rest e.ring s.place _ s.maker count s.placed);
    }

-- where the slots at home have the bytes that are told
pub lefts_at_home : {S : Type 0} (Lies : ℕ → S → List ℕ → Type 0) (c : Setup) (m : Machine) (xs : List Member) (homes : List (maybe.Option S))
    (bytes : List (List ℕ)) → IsReachable c m → AreAllSeats c m xs → AllRest xs → length m.opening ≡ n_of c.order → Stored Lies c m.cells.entries homes
    → ((i : ℕ) (w : List ℕ) → i < n_of c.order → Has Lies homes i w → slice_index_or bytes i [] ≡ w)
    → EachLeftIsItsPut c m.opening (member_records xs) (hands_of xs) bytes
lefts_at_home Lies c m xs homes bytes reach all rest count stored tells =
    lefts_are_puts c m xs reach all rest bytes count
    (λ i small left. sym (tells i _ small (entry_home Lies c m homes i stored (left_entry c m xs reach all rest i small left))))
