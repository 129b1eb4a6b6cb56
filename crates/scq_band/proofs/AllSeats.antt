-- As many seats as there are in the setup, which stand in one view, are all of them: each seat number is that of one of them.
-- So a sum over all seats of the machine is a sum over them.
use Rattle.std.proofs.Common.{◌≡◌, ◌≢◌, ℕ, zero, suc, ◌-◌, ◌<◌, Bool, true, false, ◌==◌, List, [], ◌∷◌, length, refl, sym, ◌∙◌, ap, subst, inl, inr, arith, eq-eqb, ne_eqb}
use Rattle.std.specs.Prelude.{Some, if◌then◌else◌, slice_get, sum_by}
use Rattle.std.proofs.lemmas.Bool.{cases_eq}
use Rattle.std.proofs.lemmas.List.Sums.{sum_by-cons}
use mathlib.Core.Option as maybe
use Rattle.scq_word.specs.declared.setup.Setup.{Setup}
use Rattle.scq_word.proofs.Counting.{IsApart, meets_all}
use Rattle.scq_core.specs.Exports.{SeatPart, total}
use Rattle.scq_core.specs.Machine.{Machine}
use Rattle.scq_law.specs.Exports.{sum_to}
use Rattle.scq_law.proofs.Balance.Sums.{sum_same, sum_change}
use Rattle.scq_band.specs.Exports.{Member, Scene, IsMember, Owns}

-- these members are all the seats of the machine, each once
pub record AreAllSeats (c : Setup) (m : Machine) (xs : List Member) : Type 0 where
  pub count : length xs ≡ c.seats
  pub low : (a : ℕ) (x : Member) → slice_get xs a ≡ Some x → x.number < c.seats
  pub part : (a : ℕ) (x : Member) → slice_get xs a ≡ Some x → m.part x.number ≡ x.part
  pub apart : (a b : ℕ) (x y : Member) → slice_get xs a ≡ Some x → slice_get xs b ≡ Some y → x.number ≡ y.number → a ≡ b

get_within : {A : Type 0} (xs : List A) (a : ℕ) (x : A) → slice_get xs a ≡ Some x → a < length xs
get_within [] a x e = absurd (cc)
get_within (y ∷ ys) zero x e = omega arith
get_within (y ∷ ys) (suc a) x e = let rest = get_within ys a x e in omega arith

pub read_at : {A : Type 0} (xs : List A) (a : ℕ) → a < length xs → (x : A) × (slice_get xs a ≡ Some x)
read_at [] a low = absurd (omega arith)
read_at (y ∷ ys) zero low = (y, refl)
read_at (y ∷ ys) (suc a) low = read_at ys a (omega arith)

module _ {S : Type 0} (Lies : ℕ → S → List ℕ → Type 0) where
  -- a member of a view, and how many stand behind it there
  pub member_at : (c : Setup) (z : Scene) (homes : List (maybe.Option S)) (id : ℕ) (xs : List Member) → Owns Lies c z homes id xs → (a : ℕ) (x : Member)
      → slice_get xs a ≡ Some x → IsMember Lies c z homes id (length xs - suc a) x
  member_at c z homes id [] owns a x e = absurd (cc)
  member_at c z homes id (y ∷ ys) owns zero x e =
      let same : y ≡ x = cc in
      let behind : length ys ≡ length (y ∷ ys) - 1 = omega arith in
      subst (λ (u : Member). IsMember Lies c z homes id (length (y ∷ ys) - 1) u) same
      (subst (λ (b : ℕ). IsMember Lies c z homes id b y) behind owns.0)
  member_at c z homes id (y ∷ ys) owns (suc a) x e =
      let rest = member_at c z homes id ys owns.1 a x e in
      let behind : (length ys - suc a) ≡ (length (y ∷ ys) - suc (suc a)) = omega arith in
      subst (λ (b : ℕ). IsMember Lies c z homes id b x) behind rest

  -- the members of a view, where there are as many as seats
  pub are_all : (c : Setup) (z : Scene) (homes : List (maybe.Option S)) (id : ℕ) (xs : List Member) → Owns Lies c z homes id xs → length xs ≡ c.seats
      → AreAllSeats c z.state xs
  are_all c z homes id xs owns count =
      record {
        count = count;
        low = λ a x e. (member_at c z homes id xs owns a x e).low;
        part = λ a x e. (member_at c z homes id xs owns a x e).part;
        apart =
            λ a b x y at_a at_b same.
            let one = (member_at c z homes id xs owns a x at_a).owner in
            let other = (member_at c z homes id xs owns b y at_b).owner in
            let within = get_within xs a x at_a in
            let inside = get_within xs b y at_b in
            let places = sym one ∙ ap z.owner same ∙ other in
            let depth : (length xs - suc a) ≡ (length xs - suc b) = ap (λ (q : ℕ × ℕ). q.1) places in
            omega arith;
      }

-- the number of the member at a place, and one that no seat has past the last
number_at : List Member → ℕ → ℕ
number_at [] a = 0
number_at (x ∷ xs) zero = x.number
number_at (x ∷ xs) (suc a) = number_at xs a

number_of : (xs : List Member) (a : ℕ) (x : Member) → slice_get xs a ≡ Some x → number_at xs a ≡ x.number
unfolding number_at
number_of [] a x e = absurd (cc)
number_of (y ∷ ys) zero x e = let same : y ≡ x = cc in ap (λ (u : Member). u.number) same
number_of (y ∷ ys) (suc a) x e = number_of ys a x e

-- where a seat stands
pub record SeatStandsAt (xs : List Member) (k : ℕ) : Type 0 where
  pub at : ℕ
  pub member : Member
  pub here : slice_get xs at ≡ Some member
  pub is : member.number ≡ k

pub seat_at : (c : Setup) (m : Machine) (xs : List Member) → AreAllSeats c m xs → (k : ℕ) → k < c.seats → SeatStandsAt xs k
seat_at c m xs all k low =
    let count = all.count in
    let map_is : IsApart c.seats (number_at xs) = record {
      small = λ a less. let x = read_at xs a (omega arith) in rw (number_of xs a x.0 x.1) (all.low a x.0 x.1);
      apart =
          λ a b less below same.
          let x = read_at xs a (omega arith) in
          let y = read_at xs b (omega arith) in
          all.apart a b x.0 y.0 x.1 y.1 (sym (number_of xs a x.0 x.1) ∙ same ∙ number_of xs b y.0 y.1);
    } in
    let met = meets_all c.seats (number_at xs) map_is k low in
    let within = met.low in
    let x = read_at xs met.from (omega arith) in
    record { at = met.from; member = x.0; here = x.1; is = sym (number_of xs met.from x.0 x.1) ∙ met.met }

-- a sum over the machine's seats, taken by number
by_number : (f : SeatPart → ℕ) (part : ℕ → SeatPart) (n : ℕ) → total f part n ≡ sum_to (λ k. f (part k)) n
by_number f part zero = refl
by_number f part (suc n) = let rest = by_number f part n in omega arith

-- whether a seat stands in a list
has_number : List Member → ℕ → Bool
has_number [] k = false
has_number (x ∷ xs) k = if x.number == k then true else has_number xs k

none_here : (xs : List Member) (k : ℕ) → ((a : ℕ) (x : Member) → slice_get xs a ≡ Some x → x.number ≢ k) → has_number xs k ≡ false
unfolding has_number
none_here [] k none = refl
none_here (x ∷ xs) k none = rw (ne_eqb x.number k (none 0 x refl)) (none_here xs k (λ a y e. none (suc a) y e))

one_here : (xs : List Member) (k a : ℕ) (x : Member) → slice_get xs a ≡ Some x → x.number ≡ k → has_number xs k ≡ true
unfolding has_number
one_here [] k a x e is = absurd (cc)
one_here (y ∷ ys) k zero x e is = let same : y ≡ x = cc in rw (eq-eqb y.number k (ap (λ (u : Member). u.number) same ∙ is)) refl
one_here (y ∷ ys) k (suc a) x e is =
    elim (cases_eq y.number k) [
      | inl same ↦ rw (eq-eqb y.number k same) refl
      | inr other ↦ rw (ne_eqb y.number k other) (one_here ys k a x e is)
    ]

-- a sum over members, each of another number, taken by number
sum_of_some : (f : SeatPart → ℕ) (part : ℕ → SeatPart) (n : ℕ) (xs : List Member)
    → ((a : ℕ) (x : Member) → slice_get xs a ≡ Some x → (x.number < n) × (part x.number ≡ x.part))
    → ((a b : ℕ) (x y : Member) → slice_get xs a ≡ Some x → slice_get xs b ≡ Some y → x.number ≡ y.number → a ≡ b)
    → sum_by (λ (x : Member). f x.part) xs ≡ sum_to (λ k. if has_number xs k then f (part k) else 0) n
unfolding has_number
sum_of_some f part n [] each apart = sym (all_none n)
  where
    all_none : (j : ℕ) → sum_to (λ k. 0) j ≡ 0
    all_none zero = refl
    all_none (suc j) = let rest = all_none j in omega arith
sum_of_some f part n (x ∷ xs) each apart =
    let rest = sum_of_some f part n xs (λ a y e. each (suc a) y e) (λ a b y z e d same. let next = apart (suc a) (suc b) y z e d same in omega arith) in
    let cons = sum_by-cons (λ (u : Member). f u.part) x xs in
    let mine = each 0 x refl in
    let alone : has_number xs x.number ≡ false =
    none_here xs x.number (λ a y e same. let no = apart (suc a) 0 y x e refl same in absurd (omega arith)) in
    let before : (if has_number xs x.number then f (part x.number) else 0) ≡ 0 = rw alone refl in
    let after : (if has_number (x ∷ xs) x.number then f (part x.number) else 0) ≡ f x.part =
    rw (eq-eqb x.number x.number refl) (ap f mine.1) in
    let moved = sum_change (λ k. if has_number xs k then f (part k) else 0) (λ k. if has_number (x ∷ xs) k then f (part k) else 0) x.number n mine.0
    (λ j other. rw (ne_eqb x.number j (λ e. other (sym e))) refl) in
    omega arith

-- a sum over all seats of the machine
pub total_all : (c : Setup) (m : Machine) (xs : List Member) (f : SeatPart → ℕ) → AreAllSeats c m xs
    → total f m.part c.seats ≡ sum_by (λ (x : Member). f x.part) xs
total_all c m xs f all =
    by_number f m.part c.seats
    ∙ sum_same (λ k. if has_number xs k then f (m.part k) else 0) (λ k. f (m.part k)) c.seats
    (λ k low. let at = seat_at c m xs all k low in rw (one_here xs k at.at at.member at.here at.is) refl)
    ∙ sym (sum_of_some f m.part c.seats xs (λ a x e. (all.low a x e, all.part a x e)) all.apart)
