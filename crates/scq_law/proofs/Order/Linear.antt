-- Members in the order of their keys are the one-thread order. Plan: no two of them have one key, also after the sort, so each key
-- comes before those of all later members.
use Rattle.std.proofs.Common.{◌≡◌, ℕ, zero, suc, ◌+◌, ◌-◌, ◌<◌, ◌≤◌, ◌⊎◌, inl, inr, true, false, ◌&&◌, List, [], ◌∷◌, map, get_or, refl, ap, sym, ◌∙◌, subst, arith, eq-eqb, eqb-true, ne_eqb}
use Rattle.std.specs.Prelude.{Bool, Option, Some, None, slice_get, ◌==◌}
use Rattle.std.specs.List.{Contains, IsDistinct, AllByRecursion}
use Rattle.std.specs.List.Sorted.{IsPermutation}
use Rattle.std.specs.Option.{option_map}
use Rattle.std.proofs.lemmas.Bool.{cases_Bool, cases_eq, and_parts}
use Rattle.std.proofs.lemmas.List.Sorted.{Contains-permutation, IsPermutation-sym}
use Rattle.std.proofs.lemmas.Map.Keys.{IsDistinct-IsPermutation}
use Rattle.std.proofs.lemmas.Option.{slice_get_within, slice_get-get_or, get_or_from_slice_get, slice_get-map}
use Rattle.scq_law.specs.declared.marks.Member.{Member}
use Rattle.scq_law.specs.declared.ordered.Ordered.{Ordered}
use Rattle.scq_law.specs.declared.ordered.Ordered.TheVariants.{Opening, Call}
use Rattle.scq_law.specs.Exports.{IsNoLater, AreInKeyOrder, HoldsOrder, Key, key, IsEarlier, HasKey, IsLinearization, IsFinishedRun}
use Rattle.scq_law.specs.RunSteps.{Run}
use Rattle.scq_law.proofs.Order.Decisions.{stands_in}
use Rattle.scq_law.proofs.Order.KeyUnique.{one_key, one_member}

-- whether two members have one key
abbrev same_key : Member → Member → Bool
same_key m n = (m.key.0 == n.key.0) && ((m.key.1 == n.key.1) && (m.key.2 == n.key.2))

eq_flips : (a b : ℕ) → (a == b) ≡ (b == a)
eq_flips a b =
    elim (cases_eq a b) [
      | inl same ↦ let left = eq-eqb a b same in let right = eq-eqb b a (sym same) in rw (left, right) refl
      | inr apart ↦ let left = ne_eqb a b apart in let right = ne_eqb b a (λ is. apart (sym is)) in rw (left, right) refl
    ]

key_flips : (m n : Member) → same_key m n ≡ same_key n m
key_flips m n =
    let first = eq_flips m.key.0 n.key.0 in
    let second = eq_flips m.key.1 n.key.1 in
    let third = eq_flips m.key.2 n.key.2 in
    ap (λ (x : Bool). x && ((m.key.1 == n.key.1) && (m.key.2 == n.key.2))) first
    ∙ ap (λ (x : Bool). (n.key.0 == m.key.0) && (x && (m.key.2 == n.key.2))) second
    ∙ ap (λ (x : Bool). (n.key.0 == m.key.0) && ((n.key.1 == m.key.1) && x)) third

abbrev key_of : Member → Key
key_of m = key m.key.0 m.key.1 m.key.2

keys_equal : (m n : Member) → same_key m n ≡ true → key_of m ≡ key_of n
keys_equal m n is =
    let one = and_parts (m.key.0 == n.key.0) ((m.key.1 == n.key.1) && (m.key.2 == n.key.2)) is in
    let two = and_parts (m.key.1 == n.key.1) (m.key.2 == n.key.2) one.1 in
    ap (λ (z : ℕ). key z m.key.1 m.key.2) (eqb-true m.key.0 n.key.0 one.0)
    ∙ ap (λ (z : ℕ). key n.key.0 z m.key.2) (eqb-true m.key.1 n.key.1 two.0)
    ∙ ap (λ (z : ℕ). key n.key.0 n.key.1 z) (eqb-true m.key.2 n.key.2 two.1)

-- keys that differ by position, as the library says it
all_by : (P : Member → Type 0) (xs : List Member) → ((a : ℕ) (m : Member) → slice_get xs a ≡ Some m → P m) → AllByRecursion P xs
all_by P [] each = tt
all_by P (x ∷ xs) each = (each 0 x refl, all_by P xs (λ a m at. each (suc a) m at))

by_all : (P : Member → Type 0) (xs : List Member) → AllByRecursion P xs → (a : ℕ) (m : Member) → slice_get xs a ≡ Some m → P m
by_all P [] all a m at = absurd (cc)
by_all P (x ∷ xs) all zero m at = let same : x ≡ m = cc in subst P same all.0
by_all P (x ∷ xs) all (suc a) m at = by_all P xs all.1 a m at

distinct : (xs : List Member) → ((a b : ℕ) (m n : Member) → a < b → slice_get xs a ≡ Some m → slice_get xs b ≡ Some n → same_key m n ≡ false)
    → IsDistinct same_key xs
unfolding IsDistinct
distinct [] apart = tt
distinct (x ∷ xs) apart = (
  all_by (λ (y : Member). same_key x y ≡ false) xs (λ b n at. apart 0 (suc b) x n (omega arith) refl at),
  distinct xs (λ a b m n less first second. apart (suc a) (suc b) m n (omega arith) first second),
)

apart_by : (xs : List Member) → IsDistinct same_key xs → (a b : ℕ) (m n : Member) → a < b → slice_get xs a ≡ Some m → slice_get xs b ≡ Some n
    → same_key m n ≡ false
unfolding IsDistinct
apart_by [] all a b m n less first second = absurd (cc)
apart_by (x ∷ xs) all a zero m n less first second = absurd (omega arith)
apart_by (x ∷ xs) all zero (suc b) m n less first second =
    let same : x ≡ m = cc in subst (λ (y : Member). same_key y n ≡ false) same (by_all (λ (y : Member). same_key x y ≡ false) xs all.0 b n second)
apart_by (x ∷ xs) all (suc a) (suc b) m n less first second = apart_by xs all.1 a b m n (omega arith) first second

-- keys that are in order next to each other are in order
no_later_on : (f g h : ℕ × ℕ × ℕ) → IsNoLater f g → IsNoLater g h → IsNoLater f h
no_later_on f g h (inl a) (inl b) = inl (omega arith)
no_later_on f g h (inl a) (inr b) = let points = b.0 in inl (omega arith)
no_later_on f g h (inr a) (inl b) = let points = a.0 in inl (omega arith)
no_later_on f g h (inr a) (inr b) = inr (a.0 ∙ b.0, kinds a.1 b.1)
  where
    kinds : ((f.1 < g.1) ⊎ ((f.1 ≡ g.1) × (f.2 ≤ g.2))) → ((g.1 < h.1) ⊎ ((g.1 ≡ h.1) × (g.2 ≤ h.2))) → (f.1 < h.1) ⊎ ((f.1 ≡ h.1) × (f.2 ≤ h.2))
    kinds (inl x) (inl y) = inl (omega arith)
    kinds (inl x) (inr y) = let same = y.0 in inl (omega arith)
    kinds (inr x) (inl y) = let same = x.0 in inl (omega arith)
    kinds (inr x) (inr y) = let left = x.1 in let right = y.1 in inr (x.0 ∙ y.0, omega arith)

next_to : (xs : List Member) → AreInKeyOrder xs → (a : ℕ) (m n : Member) → slice_get xs a ≡ Some m → slice_get xs (a + 1) ≡ Some n → IsNoLater m.key n.key
next_to xs sorted a m n first next =
    let inside = slice_get_within xs (a + 1) n next in
    let left : get_or xs a m ≡ m = get_or_from_slice_get xs a m m first in
    let right : get_or xs (a + 1) m ≡ n = get_or_from_slice_get xs (a + 1) n m next in
    subst (λ (x : Member). IsNoLater x.key n.key) left (subst (λ (y : Member). IsNoLater (get_or xs a m).key y.key) right (sorted a m inside))

far : (xs : List Member) → AreInKeyOrder xs → (j a : ℕ) (m n : Member) → slice_get xs a ≡ Some m → slice_get xs (a + suc j) ≡ Some n → IsNoLater m.key n.key
far xs sorted zero a m n first second =
    let place : a + suc zero ≡ a + 1 = omega arith in next_to xs sorted a m n first (ap (slice_get xs) (sym place) ∙ second)
far xs sorted (suc j) a m n first second =
    let inside = slice_get_within xs (a + suc (suc j)) n second in
    let middle : slice_get xs (a + suc j) ≡ Some (get_or xs (a + suc j) m) = slice_get-get_or xs (a + suc j) m (omega arith) in
    let place : a + suc j + 1 ≡ a + suc (suc j) = omega arith in
    no_later_on m.key (get_or xs (a + suc j) m).key n.key (far xs sorted j a m (get_or xs (a + suc j) m) first middle)
    (next_to xs sorted (a + suc j) (get_or xs (a + suc j) m) n middle (ap (slice_get xs) place ∙ second))

-- a key that is no later than another one comes before it
before_by : (m n : Member) → IsNoLater m.key n.key → (key_of m ≡ key_of n → ⊥) → IsEarlier (key_of m) (key_of n)
before_by m n (inl less) apart = record { before = inl less }
before_by m n (inr tie) apart = record { before = inr (tie.0, kinds tie.1) }
  where
    kinds : ((m.key.1 < n.key.1) ⊎ ((m.key.1 ≡ n.key.1) × (m.key.2 ≤ n.key.2)))
        → (m.key.1 < n.key.1) ⊎ ((m.key.1 ≡ n.key.1) × (m.key.2 < n.key.2))
    kinds (inl less) = inl less
    kinds (inr same) =
        elim (cases_eq m.key.2 n.key.2) [
          | inl equal ↦
              absurd (apart (ap (λ (z : ℕ). key z m.key.1 m.key.2) tie.0 ∙ ap (λ (z : ℕ). key n.key.0 z m.key.2) same.0
              ∙ ap (λ (z : ℕ). key n.key.0 n.key.1 z) equal))
          | inr other_place ↦ let low = same.1 in inr (same.0, omega arith)
        ]

-- a member of a mapped list
record Mapped (xs : List Member) (a : ℕ) (y : Ordered) : Type 0 where
  member : Member
  at : slice_get xs a ≡ Some member
  is : y ≡ member.ordered

mapped : (xs : List Member) (a : ℕ) (y : Ordered) → slice_get (map (λ (m : Member). m.ordered) xs) a ≡ Some y → Mapped xs a y
mapped xs a y is = go (slice_get xs a) refl (sym (slice_get-map (λ (m : Member). m.ordered) xs a) ∙ is)
  where
    go : (o : Option Member) → slice_get xs a ≡ o → option_map (λ (m : Member). m.ordered) o ≡ Some y → Mapped xs a y
    go None at none = absurd (cc)
    go (Some m) at some = let same : m.ordered ≡ y = cc in record { member = m; at = at; is = sym same }

module _ (run : Run) (fin : IsFinishedRun run) (r : ℕ) (members sorted : List Member) (holds : HoldsOrder run r members) (same : IsPermutation members sorted)
    (ordered : AreInKeyOrder sorted) where
  members_apart : (a b : ℕ) (m n : Member) → a < b → slice_get members a ≡ Some m → slice_get members b ≡ Some n → same_key m n ≡ false
  members_apart a b m n less first second =
      elim (cases_Bool (same_key m n)) [
        | inl equal ↦
            let keys = keys_equal m n equal in
            let one = holds.only m (stands_in members a m first) in
            let two = holds.only n (stands_in members b n second) in
            let member = one_member run fin r m.ordered n.ordered (key_of m) (key_of n) one two keys in
            let place = holds.apart a b m n first second member in
            absurd (omega arith)
        | inr apart ↦ apart
      ]

  sorted_apart : (a b : ℕ) (m n : Member) → a < b → slice_get sorted a ≡ Some m → slice_get sorted b ≡ Some n → same_key m n ≡ false
  sorted_apart = apart_by sorted (IsDistinct-IsPermutation same_key key_flips members sorted same (distinct members members_apart))

  of_sorted : (m : Member) (a : ℕ) → slice_get sorted a ≡ Some m → HasKey run r m.ordered (key_of m)
  of_sorted m a at = holds.only m (Contains-permutation sorted members m (IsPermutation-sym members sorted same) (stands_in sorted a m at))

  listed : (m : Member) → Contains members m → (y : Ordered) → m.ordered ≡ y → Contains (map (λ (x : Member). x.ordered) sorted) y
  listed m at y is =
      let here = Contains-permutation members sorted m same at in
      let there : slice_get sorted here.0 ≡ Some m = slice_get-get_or sorted here.0 m here.1 ∙ ap Some here.2 in
      stands_in (map (λ (x : Member). x.ordered) sorted) here.0 y
      (slice_get-map (λ (x : Member). x.ordered) sorted here.0 ∙ ap (option_map (λ (x : Member). x.ordered)) there ∙ ap Some is)

  pub linear : IsLinearization run r (map (λ (m : Member). m.ordered) sorted)
  linear =
      record {
        calls = λ seat call orderable. (let one = holds.calls seat call orderable in listed one.0 one.1 (Call seat (call + 1)) one.2);
        openings = λ j ring low. (let one = holds.openings j ring low in listed one.0 one.1 (Opening j) one.2);
        only =
            λ x at.
            let there : slice_get (map (λ (m : Member). m.ordered) sorted) at.0 ≡ Some x =
            slice_get-get_or (map (λ (m : Member). m.ordered) sorted) at.0 x at.1 ∙ ap Some at.2 in
            let one = mapped sorted at.0 x there in
            (key_of one.member, subst (λ (y : Ordered). HasKey run r y (key_of one.member)) (sym one.is) (of_sorted one.member at.0 one.at));
        sorted =
            λ a b x y f g less first second of_x of_y.
            let one = mapped sorted a x first in
            let two = mapped sorted b y second in
            let apart = sorted_apart a b one.member two.member less one.at two.at in
            let places : a + suc (b - a - 1) ≡ b = omega arith in
            let no_later = far sorted ordered (b - a - 1) a one.member two.member one.at (ap (slice_get sorted) places ∙ two.at) in
            let keys : key_of one.member ≡ key_of two.member → ⊥ = λ equal. (let is = self_key one.member two.member equal in cc) in
            let left : key_of one.member ≡ f =
            one_key run fin.recorded fin.is_run r x (key_of one.member) f
            (subst (λ (z : Ordered). HasKey run r z (key_of one.member)) (sym one.is) (of_sorted one.member a one.at)) of_x in
            let right : key_of two.member ≡ g =
            one_key run fin.recorded fin.is_run r y (key_of two.member) g
            (subst (λ (z : Ordered). HasKey run r z (key_of two.member)) (sym two.is) (of_sorted two.member b two.at)) of_y in
            subst (λ (z : Key). IsEarlier z g) left (subst (λ (z : Key). IsEarlier (key_of one.member) z) right (before_by one.member two.member no_later keys));
      }
    where
      self_key : (m n : Member) → key_of m ≡ key_of n → same_key m n ≡ true
      self_key m n equal =
          let first = eq-eqb m.key.0 n.key.0 (ap (λ (k : Key). k.point) equal) in
          let second = eq-eqb m.key.1 n.key.1 (ap (λ (k : Key). k.kind) equal) in
          let third = eq-eqb m.key.2 n.key.2 (ap (λ (k : Key). k.place) equal) in
          rw (first, second, third) refl
