-- What all seats' records say together once no seat is in the middle of a call. Plan: a call of the machine's seat is one of
-- the records' and the other way round; then each fact is a law of the machine, read in the records.
use Rattle.std.proofs.Common.{◌≡◌, ℕ, zero, suc, ◌-◌, ◌<◌, ◌≤◌, List, [], ◌∷◌, map, length, refl, sym, ◌∙◌, ap, subst, inl, inr, arith}
use Rattle.std.specs.Prelude.{Some, slice_get, slice_index_or}
use Rattle.std.proofs.lemmas.Bool.{cases_lt}
use Rattle.scq_word.specs.declared.setup.Setup.{Setup}
use Rattle.scq_word.specs.Exports.{n_of}
use Rattle.scq_core.specs.declared.ended.Ended.{Ended}
use Rattle.scq_core.specs.declared.ended.Ended.TheVariants.{Done, Got}
use Rattle.scq_core.specs.declared.phase.Phase.{Phase}
use Rattle.scq_core.specs.declared.phase.Phase.TheVariants.{Idle}
use Rattle.scq_core.specs.Exports.{SeatPart, ring_slots, idle_part, IsReachable}
use Rattle.scq_core.specs.Machine.{Machine}
use Rattle.scq_law.specs.Exports.{Maker, opening_put, call_of, HasLanded, IsPlacedBy, at_opening, in_record, under_way, AllIdle}
use Rattle.scq_law.proofs.Base.Traces.{has_trace}
use Rattle.scq_law.proofs.Places.Throughout.{reached}
use Rattle.scq_law.proofs.Places.PlaceLaws.{places_once, got_below}
use Rattle.scq_band.specs.declared.numbers.Numbers.{Numbers}
use Rattle.scq_band.specs.Exports.{Member, known_of, CallEndedSo, SomeCallEndedSo, WasPut, EachGetHasItsPut, NoneIsPutTwice, NoneIsGotTwice}
use Rattle.scq_band.specs.Exports.{EachPutPassedIsGot}
use Rattle.scq_band.proofs.AllSeats.{AreAllSeats, seat_at}

-- what is read in a list of images
pub map_back : {A B : Type 0} (f : A → B) (xs : List A) (a : ℕ) (y : B) → slice_get (map f xs) a ≡ Some y → (x : A) × (slice_get xs a ≡ Some x) × (f x ≡ y)
map_back f [] a y e = absurd (cc)
map_back f (x ∷ xs) zero y e = let same : f x ≡ y = cc in (x, refl, same)
map_back f (x ∷ xs) (suc a) y e = map_back f xs a y e

pub map_on : {A B : Type 0} (f : A → B) (xs : List A) (a : ℕ) (x : A) → slice_get xs a ≡ Some x → slice_get (map f xs) a ≡ Some (f x)
map_on f [] a x e = absurd (cc)
map_on f (y ∷ ys) zero x e = let same : y ≡ x = cc in ap (λ u. Some (f u)) same
map_on f (y ∷ ys) (suc a) x e = map_on f ys a x e

-- the records of members
abbrev pub member_records : List Member → List (List Ended)
member_records xs = map (λ (x : Member). x.part.calls) xs

-- each of them is between two calls
abbrev pub AllRest : List Member → Type 0
AllRest xs = (a : ℕ) (x : Member) → slice_get xs a ≡ Some x → x.part.phase ≡ Idle

module _ (c : Setup) (m : Machine) (xs : List Member) (reach : IsReachable c m) (all : AreAllSeats c m xs) (rest : AllRest xs) where
  -- a seat out of range has made no call
  absent : (k : ℕ) → c.seats ≤ k → m.part k ≡ idle_part
  absent k high = let s = has_trace c m reach in (reached c s.time s.ghost m s.trace).absent k high

  idle : (k : ℕ) → (m.part k).phase ≡ Idle
  idle k =
      elim (cases_lt k c.seats) [
        | inl low ↦
            let at = seat_at c m xs all k low in
            ap (λ (j : ℕ). (m.part j).phase) (sym at.is) ∙ ap (λ (p : SeatPart). p.phase) (all.part at.at at.member at.here) ∙ rest at.at at.member at.here
        | inr high ↦ ap (λ (p : SeatPart). p.phase) (absent k high)
      ]

  pub all_idle : AllIdle c m
  all_idle k low = idle k

  -- a call of the machine's seat is one of the records'
  pub ended_call : (k x : ℕ) (e : Ended) → slice_get (m.part k).calls x ≡ Some e → SomeCallEndedSo (member_records xs) e
  ended_call k x e is =
      elim (cases_lt k c.seats) [
        | inl low ↦
            let at = seat_at c m xs all k low in
            let same : m.part k ≡ at.member.part = ap m.part (sym at.is) ∙ all.part at.at at.member at.here in
            record {
              seat = at.at;
              number = x;
              is = (
                at.member.part.calls,
                map_on (λ (u : Member). u.part.calls) xs at.at at.member at.here,
                subst (λ (p : SeatPart). slice_get p.calls x ≡ Some e) same is,
              );
            }
        | inr high ↦
            let none : slice_get idle_part.calls x ≡ Some e = subst (λ (p : SeatPart). slice_get p.calls x ≡ Some e) (absent k high) is in
            absurd (cc)
      ]

  -- and the other way round
  pub call_ended : (a x : ℕ) (e : Ended) → CallEndedSo (member_records xs) a x e
      → (u : Member) × (slice_get xs a ≡ Some u) × (slice_get (m.part u.number).calls x ≡ Some e)
  call_ended a x e call =
      let at = map_back (λ (u : Member). u.part.calls) xs a call.0 call.1 in
      let read : slice_get at.0.part.calls x ≡ Some e = subst (λ (l : List Ended). slice_get l x ≡ Some e) (sym at.2) call.2 in
      (at.0, at.1, subst (λ (p : SeatPart). slice_get p.calls x ≡ Some e) (sym (all.part a at.0 at.1)) read)

  opening_read : (l : List (List ℕ)) (i : ℕ) → i < length l → slice_get l i ≡ Some (slice_index_or l i [])
  opening_read [] i low = absurd (omega arith)
  opening_read (w ∷ ws) zero low = refl
  opening_read (w ∷ ws) (suc i) low = opening_read ws i (omega arith)

  -- who placed, in the records
  pub was_put_by : (r p : ℕ) (w : List ℕ) (a : Maker) → length m.opening ≡ n_of c.order → IsPlacedBy c m r p w a → WasPut c m.opening (member_records xs) r p w
  was_put_by r p w a count (at_opening ring first last content) =
      inl (record {
        index = p - ring_slots c;
        ring = ring;
        place = omega arith;
        bytes = opening_read m.opening (p - ring_slots c) (omega arith) ∙ ap (λ (v : List ℕ). Some v) (sym content);
      })
  was_put_by r p w a count (in_record k x is) = inr (ended_call k x (Done r p w) is)
  was_put_by r p w a count (under_way k has) =
      let no : HasLanded Idle r p w = subst (λ (t : Phase). HasLanded t r p w) (idle k) has in
      let is = no.1 in absurd (cc)

  opening_at : (l : List (List ℕ)) (i : ℕ) (w : List ℕ) → slice_get l i ≡ Some w → (i < length l) × (w ≡ slice_index_or l i [])
  opening_at [] i w is = absurd (cc)
  opening_at (v ∷ vs) zero w is = let same : w ≡ v = cc in (omega arith, same)
  opening_at (v ∷ vs) (suc i) w is = let rest = opening_at vs i w is in ((let low = rest.0 in omega arith), rest.1)

  pub placed_if_put : (r p : ℕ) (w : List ℕ) → length m.opening ≡ n_of c.order → WasPut c m.opening (member_records xs) r p w
      → (a : Maker) × IsPlacedBy c m r p w a
  placed_if_put r p w count (inl o) =
      let at = opening_at m.opening o.index w o.bytes in
      let low = at.0 in
      let place = o.place in
      let index : o.index ≡ p - ring_slots c = omega arith in
      (opening_put, at_opening o.ring (omega arith) (omega arith) (at.1 ∙ ap (λ i. slice_index_or m.opening i []) index))
  placed_if_put r p w count (inr has) =
      let at = call_ended has.seat has.number (Done r p w) has.is in
      (call_of at.0.number has.number, in_record at.0.number has.number at.2)

  pub gets_have_puts : length m.opening ≡ n_of c.order → EachGetHasItsPut c m.opening (member_records xs)
  gets_have_puts count r p w has =
      let at = call_ended has.seat has.number (Got r p w) has.is in
      let by = (places_once c m reach).fresh r p w at.0.number has.number at.2 in
      was_put_by r p w by.0 count by.1

  pub none_twice : NoneIsGotTwice (member_records xs)
  none_twice r p v w a x b y one other =
      let at = call_ended a x (Got r p v) one in
      let there = call_ended b y (Got r p w) other in
      let same = (places_once c m reach).taken_once r p v w at.0.number x there.0.number y at.2 there.2 in
      (all.apart a b at.0 there.0 at.1 there.1 same.0, same.1)

  pub none_put_twice : length m.opening ≡ n_of c.order → NoneIsPutTwice c m.opening (member_records xs)
  unfolding placed_if_put
  none_put_twice count =
      record {
        once =
            λ r p v w a x b y one other.
            let at = call_ended a x (Done r p v) one in
            let there = call_ended b y (Done r p w) other in
            let same = (places_once c m reach).once r p v w (call_of at.0.number x) (call_of there.0.number y) (in_record at.0.number x at.2)
            (in_record there.0.number y there.2) in
            let both = same_call at.0.number x there.0.number y same.0 in
            (all.apart a b at.0 there.0 at.1 there.1 both.0, both.1);
        apart =
            λ r p v w o has.
            let by = placed_if_put r p v count (inl o) in
            let at = call_ended has.seat has.number (Done r p w) has.is in
            let same = (places_once c m reach).once r p v w opening_put (call_of at.0.number has.number) by.1 (in_record at.0.number has.number at.2) in
            let never : opening_put ≡ call_of at.0.number has.number = same.0 in
            absurd (cc);
      }
    where
      same_call : (k x j y : ℕ) → call_of k x ≡ call_of j y → (k ≡ j) × (x ≡ y)
      same_call k x j y e = (cc, cc)

  pub passed_is_got : (known : List (List Numbers)) → length m.opening ≡ n_of c.order
      → ((a : ℕ) (numbers : List Numbers) → slice_get known a ≡ Some numbers → (r : ℕ) (x : Numbers) → slice_get numbers r ≡ Some x → x.head ≤ m.cells.head r)
      → EachPutPassedIsGot c m.opening (member_records xs) known
  passed_is_got known count heads r p w put passed =
      let by = placed_if_put r p w count put in
      let head = heads passed.seat passed.numbers passed.its r (known_of passed.numbers r) (known_some passed.numbers r p passed.passed) in
      let below = passed.passed in
      let taken = got_below c m reach all_idle r p w by.0 by.1 (omega arith) in
      ended_call taken.seat taken.number (Got r p w) taken.taken
    where
      known_some : (ns : List Numbers) (q n : ℕ) → n < (known_of ns q).head → slice_get ns q ≡ Some (known_of ns q)
      known_some [] q n low = absurd (omega arith)
      known_some (y ∷ ys) zero n low = refl
      known_some (y ∷ ys) (suc q) n low = known_some ys q n low
