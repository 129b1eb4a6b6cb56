-- What is left in the rings, beside all seats' records and hands, once no seat is in the middle of a call. Plan: the machine's
-- sums over its seats are sums over the records and hands; then each fact is a law of the machine.
use Rattle.std.proofs.Common.{◌≡◌, ℕ, zero, suc, ◌+◌, ◌<◌, ◌≤◌, List, [], ◌∷◌, ◌++◌, map, length, refl, sym, ◌∙◌, ap, subst, inl, inr, arith}
use Rattle.std.specs.Prelude.{Option, Some, slice_get, slice_index, sum, sum_by}
use Rattle.std.proofs.lemmas.Bool.{cases_lt}
use Rattle.std.proofs.lemmas.List.Sums.{sum_by-cons}
use Rattle.scq_word.specs.declared.setup.Setup.{Setup}
use Rattle.scq_word.specs.Exports.{n_of}
use Rattle.scq_core.specs.declared.ended.Ended.{Ended}
use Rattle.scq_core.specs.declared.ended.Ended.TheVariants.{Spent}
use Rattle.scq_core.specs.declared.phase.Phase.{Phase}
use Rattle.scq_core.specs.declared.phase.Phase.TheVariants.{Idle}
use Rattle.scq_core.specs.Exports.{SeatPart, total, IsReachable}
use Rattle.scq_core.specs.Machine.{Machine}
use Rattle.scq_law.specs.Exports.{tally, was_put, is_putting, enqueues, times, Home, hand_of, in_slot, IsHome, sum_to, was_done, was_got, has_placed}
use Rattle.scq_law.specs.Exports.{gets_of, puts_of, left_in, left_below}
use Rattle.scq_law.proofs.Balance.KeptLaws.{balanced, all_kept}
use Rattle.scq_law.proofs.Places.HandLaws.{one_hand}
use Rattle.scq_law.proofs.Tickets.SpentLaws.{spent_kept}
use Rattle.scq_band.specs.Exports.{Member, gets_on, begun_on, IsBalance, IsAllThere, EachSpentIsPastTheBound, EachIsInOneHand}
use Rattle.scq_band.proofs.AllSeats.{AreAllSeats, total_all}
use Rattle.scq_band.proofs.ClosedRecords.{map_back, map_on, member_records, AllRest}

-- a sum over images
pub sum_by-map : {A B : Type 0} (f : B → ℕ) (h : A → B) (xs : List A) → sum_by f (map h xs) ≡ sum_by (λ x. f (h x)) xs
sum_by-map f h [] = refl
sum_by-map f h (x ∷ xs) =
    let rest = sum_by-map f h xs in
    let mapped = sum_by-cons f (h x) (map h xs) in
    let straight = sum_by-cons (λ u. f (h u)) x xs in
    omega arith

-- sums of numbers that agree at each member
sum_by-same : {A : Type 0} (f h : A → ℕ) (xs : List A) → ((a : ℕ) (x : A) → slice_get xs a ≡ Some x → f x ≡ h x) → sum_by f xs ≡ sum_by h xs
sum_by-same f h [] same = refl
sum_by-same f h (x ∷ xs) same =
    let rest = sum_by-same f h xs (λ a u e. same (suc a) u e) in
    let here = same 0 x refl in
    let one = sum_by-cons f x xs in
    let other = sum_by-cons h x xs in
    omega arith

-- the hands of members, and the spent tickets that they keep
abbrev pub hands_of : List Member → List (List ℕ)
hands_of xs = map (λ (x : Member). x.part.hand) xs

abbrev pub kept_by : List Member → List (Option ℕ)
kept_by xs = map (λ (x : Member). x.part.spent) xs

-- what is left on each ring, as a list
pub record IsLeftOf (c : Setup) (m : Machine) (left : List ℕ) : Type 0 where
  pub rings : length left ≡ c.rings
  pub each : (r : ℕ) → r < c.rings → slice_index left r ≡ left_in c m.cells r

-- the sum of a list of so many numbers
sum_list : (f : ℕ → ℕ) (xs : List ℕ) (n : ℕ) → length xs ≡ n → ((r : ℕ) → r < n → slice_index xs r ≡ f r) → sum xs ≡ sum_to f n
sum_list f xs n = go xs n f
  where
    -- from the front: the first number, and then those of the numbers behind
    shift : (h : ℕ → ℕ) (k : ℕ) → sum_to h (suc k) ≡ h 0 + sum_to (λ j. h (suc j)) k
    shift h zero = refl
    shift h (suc k) = let rest = shift h k in omega arith

    go : (ys : List ℕ) (k : ℕ) (h : ℕ → ℕ) → length ys ≡ k → ((r : ℕ) → r < k → slice_index ys r ≡ h r) → sum ys ≡ sum_to h k
    go [] zero h count each = refl
    go [] (suc k) h count each = absurd (omega arith)
    go (y ∷ ys) zero h count each = absurd (omega arith)
    go (y ∷ ys) (suc k) h count each =
        let rest = go ys k (λ j. h (suc j)) (omega arith) (λ r low. each (suc r) (omega arith)) in
        let here = each 0 (omega arith) in
        let cons = sum_by-cons (λ x. x) y ys in
        let first = shift h k in
        omega arith

module _ (c : Setup) (m : Machine) (xs : List Member) (reach : IsReachable c m) (all : AreAllSeats c m xs) (rest : AllRest xs) where
  -- a sum over the machine's seats is one over the records
  by_records : (f : List Ended → ℕ) → sum_by f (member_records xs) ≡ total (λ p. f p.calls) m.part c.seats
  by_records f = sum_by-map f (λ (x : Member). x.part.calls) xs ∙ sym (total_all c m xs (λ (p : SeatPart). f p.calls) all)

  -- where no seat is in the middle of a call, what its phase adds is nothing
  calls_alone : (f : List Ended → ℕ) (h : Phase → ℕ) → h Idle ≡ 0
      → total (λ p. f p.calls + h p.phase) m.part c.seats ≡ sum_by f (member_records xs)
  calls_alone f h none =
      total_all c m xs (λ (p : SeatPart). f p.calls + h p.phase) all
      ∙ sum_by-same (λ (x : Member). f x.part.calls + h x.part.phase) (λ (x : Member). f x.part.calls) xs
      (λ a x e. let phase : h x.part.phase ≡ 0 = ap h (rest a x e) ∙ none in omega arith)
      ∙ sym (sum_by-map f (λ (x : Member). x.part.calls) xs)

  pub is_balance : (left : List ℕ) → IsLeftOf c m left → IsBalance c (member_records xs) left
  is_balance left is =
      record {
        rings = is.rings;
        balance =
            λ r low.
            let here = is.each r low in
            let law = (balanced c m reach).balance r in
            let gets : gets_on (member_records xs) r ≡ total (gets_of r) m.part c.seats = by_records (tally (was_got r)) in
            let puts : total (puts_of r) m.part c.seats ≡ sum_by (tally (was_done r)) (member_records xs) =
            calls_alone (tally (was_done r)) (has_placed r) refl in
            omega arith;
      }

  pub all_there : (left : List ℕ) → IsLeftOf c m left → IsAllThere c (hands_of xs) left
  all_there left is =
      let law = (all_kept c m reach).kept in
      let lefts : sum left ≡ left_below c m.cells c.rings = sum_list (left_in c m.cells) left c.rings is.rings is.each in
      let hands : sum_by length (hands_of xs) ≡ total (λ p. length p.hand) m.part c.seats =
      sum_by-map length (λ (x : Member). x.part.hand) xs ∙ sym (total_all c m xs (λ (p : SeatPart). length p.hand) all) in
      omega arith

  begun_all : (r : ℕ) → begun_on c (member_records xs) r ≡ enqueues c m r
  begun_all r =
      let puts : total (λ p. tally (was_put r) p.calls + is_putting r p.phase) m.part c.seats ≡ sum_by (tally (was_put r)) (member_records xs) =
      calls_alone (tally (was_put r)) (is_putting r) refl in
      omega arith

  last_call : (before : List Ended) (e : Ended) → slice_get (before ++ e ∷ []) (length before) ≡ Some e
  last_call [] e = refl
  last_call (d ∷ before) e = last_call before e

  pub spent_past : EachSpentIsPastTheBound c (member_records xs) (kept_by xs)
  spent_past a t keeps =
      let at = map_back (λ (x : Member). x.part.spent) xs a (Some t) keeps in
      let x = at.0 in
      let kept : (m.part x.number).spent ≡ Some t = ap (λ (p : SeatPart). p.spent) (all.part a x at.1) ∙ at.2 in
      let law = (spent_kept c m reach).last x.number t kept in
      let ended = law.1 in
      let calls : x.part.calls ≡ ended.before ++ Spent law.0 t ended.is_put ∷ [] = ap (λ (p : SeatPart). p.calls) (sym (all.part a x at.1)) ∙ ended.calls in
      record {
        ring = law.0;
        low = law.2;
        number = length ended.before;
        is_put = ended.is_put;
        call = (
          x.part.calls,
          map_on (λ (u : Member). u.part.calls) xs a x at.1,
          subst (λ (l : List Ended). slice_get l (length ended.before) ≡ Some (Spent law.0 t ended.is_put)) (sym calls)
              (last_call ended.before (Spent law.0 t ended.is_put)),
        );
        past = rw (begun_all law.0) law.3;
      }

  -- no index stands twice in all hands
  pub each_in_one_hand : EachIsInOneHand c (hands_of xs)
  each_in_one_hand =
      record {
        low =
            λ i some.
            let at = one_seat i some in
            (one_hand c m reach).in_hands i at.0 at.1;
        once = λ i. rw (sums i) (at_most i);
      }
    where
      sums : (i : ℕ) → sum_by (times i) (hands_of xs) ≡ total (λ p. times i p.hand) m.part c.seats
      sums i = sum_by-map (times i) (λ (x : Member). x.part.hand) xs ∙ sym (total_all c m xs (λ (p : SeatPart). times i p.hand) all)

      -- some seat of those below n has it, or none does
      somewhere : (i n : ℕ) → 0 < total (λ p. times i p.hand) m.part n → (k : ℕ) × (0 < times i (m.part k).hand)
      somewhere i zero some = absurd (omega arith)
      somewhere i (suc n) some =
          elim (cases_lt 0 (times i (m.part n).hand)) [
            | inl here ↦ (n, here)
            | inr none ↦ somewhere i n (omega arith)
          ]

      one_seat : (i : ℕ) → 0 < sum_by (times i) (hands_of xs) → (k : ℕ) × (0 < times i (m.part k).hand)
      one_seat i some = somewhere i c.seats (let same = sums i in omega (arith, some, same))

      -- none below n has it where the seat n has
      alone_below : (i k n : ℕ) → i < n_of c.order → 0 < times i (m.part k).hand → n ≤ k → total (λ p. times i p.hand) m.part n ≡ 0
      alone_below i k zero small here below = refl
      alone_below i k (suc n) small here below =
          let rest_below = alone_below i k n small here (omega arith) in
          elim (cases_lt 0 (times i (m.part n).hand)) [
            | inl there ↦
                let same : hand_of n ≡ hand_of k = (one_hand c m reach).alone i (hand_of n) (hand_of k) small there here in
                let number : n ≡ k = cc in
                absurd (omega arith)
            | inr none ↦ omega arith
          ]

      single : (i k : ℕ) → i < n_of c.order → times i (m.part k).hand ≤ 1
      single i k small =
          elim (cases_lt 0 (times i (m.part k).hand)) [
            | inl some ↦ held_once i k small some
            | inr none ↦ omega arith
          ]
        where
          held_once : (j q : ℕ) → j < n_of c.order → 0 < times j (m.part q).hand → times j (m.part q).hand ≤ 1
          held_once j q low some = go at.0 at.1
            where
              at : (h : Home) × IsHome c m j h
              at = (one_hand c m reach).home j low

              go : (h : Home) → IsHome c m j h → times j (m.part q).hand ≤ 1
              go (hand_of p) is =
                  let same : hand_of p ≡ hand_of q = (one_hand c m reach).alone j (hand_of p) (hand_of q) low (let one = is.1 in omega (arith, one)) some in
                  let number : p ≡ q = cc in
                  let once : times j (m.part q).hand ≡ 1 = ap (λ (b : ℕ). times j (m.part b).hand) (sym number) ∙ is.1 in
                  omega (arith, once)
              go (in_slot r s) is =
                  let same : in_slot r s ≡ hand_of q = (one_hand c m reach).alone j (in_slot r s) (hand_of q) low (is.1, is.2) some in absurd (cc)

      few : (i n : ℕ) → total (λ p. times i p.hand) m.part n ≤ 1
      few i zero = omega arith
      few i (suc n) =
          elim (cases_lt 0 (times i (m.part n).hand)) [
            | inl here ↦
                let small = (one_hand c m reach).in_hands i n here in
                let none = alone_below i n n small here (omega arith) in
                let one = single i n small in
                omega (arith, none, one)
            | inr none ↦ let rest_few = few i n in omega (arith, rest_few, none)
          ]

      at_most : (i : ℕ) → total (λ p. times i p.hand) m.part c.seats ≤ 1
      at_most i = few i c.seats
