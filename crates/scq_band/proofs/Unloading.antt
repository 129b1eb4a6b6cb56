-- The buffers are taken from a closed table one after the other, and the indices that are left are counted in its words.
use Rattle.std.proofs.Common.{◌≡◌, ℕ, zero, suc, ◌+◌, ◌<◌, ◌≤◌, Bool, true, false, List, [], ◌∷◌, ◌++◌, map, take, length, refl, sym, ◌∙◌, ap, subst, inl, inr, arith}
use Rattle.std.specs.Prelude.{Some, slice_get, slice_index, slice_index_or, slice_set}
use Rattle.std.proofs.lemmas.Bool.{cases_eq}
use Rattle.std.proofs.lemmas.List.{get_or-set_other}
use mathlib.Core.Option.{some, some-injective, some-ne-none}
use lib.ListN.{get_elem?}
use Rattle.scq_band.specs.Slots.{SlotStanding}
use Rattle.scq_band.specs.Exports.{full_slot}

-- what is read at a place
pub read_some : {A : Type 0} (xs : List A) (i : ℕ) (x : A) → get_elem? xs i ≡ some x → slice_get xs i ≡ Some x
read_some [] i x e = absurd (some-ne-none x (sym e))
read_some (y ∷ ys) zero x e = ap (λ u. Some u) (some-injective y x e)
read_some (y ∷ ys) (suc i) x e = read_some ys i x e

pub read_word : (xs : List ℕ) (i x : ℕ) → get_elem? xs i ≡ some x → slice_index xs i ≡ x
read_word [] i x e = absurd (some-ne-none x (sym e))
read_word (y ∷ ys) zero x e = some-injective y x e
read_word (y ∷ ys) (suc i) x e = read_word ys i x e

-- one place more
pub take_next : {A : Type 0} (xs : List A) (i : ℕ) (x : A) → slice_get xs i ≡ Some x → take (i + 1) xs ≡ take i xs ++ x ∷ []
take_next xs i x e = subst (λ (n : ℕ). take n xs ≡ take i xs ++ x ∷ []) (let one : suc i ≡ i + 1 = omega arith in one) (go xs i e)
  where
    go : (ys : List _) (j : ℕ) → slice_get ys j ≡ Some x → take (suc j) ys ≡ take j ys ++ x ∷ []
    go [] j none = absurd (cc)
    go (y ∷ ys) zero here = let same : y ≡ x = cc in ap (λ u. u ∷ []) same
    go (y ∷ ys) (suc j) there = ap (λ l. y ∷ l) (go ys j there)

pub map_next : {A B : Type 0} (f : A → B) (xs : List A) (x : A) → map f (xs ++ x ∷ []) ≡ map f xs ++ f x ∷ []
map_next f [] x = refl
map_next f (y ∷ ys) x = ap (λ l. f y ∷ l) (map_next f ys x)

pub length_next : {A : Type 0} (xs : List A) (x : A) → length (xs ++ x ∷ []) ≡ length xs + 1
length_next [] x = refl
length_next (y ∷ ys) x = let rest = length_next ys x in omega arith

-- the places that are empty, and those that are full
set_empty : (filled : List Bool) (i : ℕ) → slice_index_or (slice_set filled i false) i false ≡ false
set_empty [] i = refl
set_empty (b ∷ filled) zero = refl
set_empty (b ∷ filled) (suc i) = set_empty filled i

pub empty_next : (filled : List Bool) (i : ℕ) → ((k : ℕ) → k < i → slice_index_or filled k false ≡ false)
    → (k : ℕ) → k < i + 1 → slice_index_or (slice_set filled i false) k false ≡ false
empty_next filled i before k low =
    elim (cases_eq k i) [
      | inl same ↦ rw same (set_empty filled i)
      | inr other ↦ get_or-set_other filled i k false false other ∙ before k (omega arith)
    ]

pub full_next : (filled : List Bool) (i n : ℕ) → ((k : ℕ) → i ≤ k → k < n → slice_index_or filled k false ≡ true)
    → (k : ℕ) → i + 1 ≤ k → k < n → slice_index_or (slice_set filled i false) k false ≡ true
full_next filled i n before k past low = get_or-set_other filled i k false false (λ same. omega arith) ∙ before k (omega arith) low

module _ {B : Type 0} where
  -- a slot that is read has a buffer where each has
  pub taken_full : (items : List (SlotStanding B)) (i : ℕ) (slot : SlotStanding B) → slice_get items i ≡ Some slot → (b : B) × (slice_get items i ≡ Some (full_slot b))
      → (b : B) × (slot.buffer ≡ Some b)
  taken_full items i slot here laid =
      let same : slot ≡ full_slot laid.0 = cc in
      (laid.0, ap (λ (s : SlotStanding B). s.buffer) same)

  -- one buffer more
  pub buffers_next : (items : List (SlotStanding B)) (buffers : List B) (i : ℕ) (slot : SlotStanding B) (b : B) → slice_get items i ≡ Some slot → slot.buffer ≡ Some b
      → map full_slot buffers ≡ take i items → map full_slot (buffers ++ b ∷ []) ≡ take (i + 1) items
  buffers_next items buffers i slot b here is before =
      let same : full_slot b ≡ slot = ap (λ o. record { buffer = o }) (sym is) in
      map_next full_slot buffers b ∙ ap (λ (l : List (SlotStanding B)). l ++ full_slot b ∷ []) before
      ∙ ap (λ (s : SlotStanding B). take i items ++ s ∷ []) same ∙ sym (take_next items i slot here)
