-- What a band is made with: its first seats, and the slots of its buffers.
use Rattle.std.proofs.Common.{◌≡◌, ℕ, zero, suc, ◌^◌, ◌<◌, Bool, false, replicate, List, [], ◌∷◌, ◌++◌, map, length, refl, sym, ◌∙◌, ap, subst, inl, inr, arith, eq-eqb, ne_eqb, ◌⊎◌}
use Rattle.std.proofs.lemmas.List.{length-append, length-replicate, get_or-replicate}
use Rattle.std.specs.Prelude.{Some, None, Option, All, if◌then◌else◌, slice_get, slice_index_or}
use Rattle.std.proofs.lemmas.Bool.{cases_eq, cases_lt}
use mathlib.Core.Option.{some}
use lib.ListN.{get_elem?, get_or-eq_default}
use Rattle.scq_word.specs.declared.setup.Setup.{Setup}
use Rattle.scq_word.specs.Exports.{n_of}
use Rattle.scq_band.specs.declared.numbers.Numbers.{Numbers}
use Rattle.scq_band.specs.declared.rule.Key.{Key}
use Rattle.scq_band.specs.declared.making.Room.{Room}
use Rattle.scq_band.specs.Exports.{known_of, before_places, first_numbers_of, first_numbers, first_of, LiesIn, Has, Identity, in_hand, first_standing}
use Rattle.scq_band.specs.Exports.{first_standings, IsKept, AreSmall, full_slot, noted, HoldsNone, IsRoom, first_below}
use Rattle.scq_band.specs.Standing.{Standing}
use Rattle.scq_band.proofs.Opening.{numbers_length}

-- the places known at the start are below every limit
small_place : (c : Setup) (r : ℕ) → before_places c r < 2 ^ 60
small_place c r =
    let low = c.limit_in_range in
    elim (cases_eq r 0) [
      | inl zeroth ↦ rw (eq-eqb r 0 zeroth) (omega (arith, low))
      | inr other ↦ rw (ne_eqb r 0 other) (omega (arith, low))
    ]

known_snoc : (xs : List Numbers) (a : Numbers) (r : ℕ) → ((known_of (xs ++ a ∷ []) r ≡ known_of xs r) ⊎ (known_of (xs ++ a ∷ []) r ≡ a))
known_snoc [] a zero = inr refl
known_snoc [] a (suc r) = inl refl
known_snoc (x ∷ xs) a zero = inl refl
known_snoc (x ∷ xs) a (suc r) = known_snoc xs a r

pub first_small : (c : Setup) (n : ℕ) → AreSmall (first_numbers c n)
first_small c zero r = (omega arith, omega arith)
first_small c (suc n) r =
    elim (known_snoc (first_numbers c n) (first_numbers_of c n) r) [
      | inl old ↦ rw old (first_small c n r)
      | inr new ↦ rw new (small_place c n, omega arith)
    ]

-- so many are noted as not held
pub holds_none : (c : Setup) (n : ℕ) (held : List Bool) → n ≡ n_of c.order → held ≡ replicate n false → HoldsNone c held
holds_none c n held size is =
    record {
      each = ap length is ∙ length-replicate n false ∙ size;
      none =
          λ i.
          ap (λ (l : List Bool). noted l i) is ∙ ap (λ (b : Bool). if b then 1 else 0)
          (elim (cases_lt i n) [
            | inl low ↦ get_or-replicate n i false false low
            | inr high ↦ get_or-eq_default (replicate n false) false (let size_is = length-replicate n false in omega (arith, high, size_is))
          ]);
    }

module _ {B : Type 0} (IsSame : B → B → Type 0) where
  -- a seat that was just split off
  pub first_kept : (key : Key B) (k : ℕ) (room : Room) → IsRoom key.setup room
      → IsKept IsSame key (first_of (first_below key.setup (suc k)), []) room.held.items room.numbers.items None
  first_kept key k room is =
      record {
        alone = record { seats = refl; out = refl };
        idle = refl;
        slots = λ i. sym (is.held.none i);
        each = is.held.each;
        same = λ i. refl;
        numbers = is.known;
        rings = ap length is.known ∙ numbers_length key.setup key.setup.rings;
        small = λ r. rw is.known (first_small key.setup key.setup.rings r);
        spent = refl;
        given = tt;
      }

module _ {B : Type 0} (contents : B → List ℕ) where
  record Stands (bs : List B) (j : ℕ) : Type 0 where
    pub buffer : B
    pub got : slice_get bs j ≡ Some buffer
    pub home : get_elem? (map some (map full_slot bs)) j ≡ some (some (full_slot buffer))
    pub bytes : contents buffer ≡ slice_index_or (map contents bs) j []

  stands : (bs : List B) (j : ℕ) → j < length bs → Stands bs j
  stands [] j low = absurd (omega arith)
  stands (b ∷ bs) zero low = record { buffer = b; got = refl; home = refl; bytes = refl }
  stands (b ∷ bs) (suc j) low =
      let s = stands bs j (omega arith) in
      record { buffer = s.buffer; got = s.got; home = s.home; bytes = s.bytes }

  -- each slot has the buffer that was given for its index
  pub stand_all : (IsSame : B → B → Type 0) → ((b : B) → IsSame b b) → (bs : List B) (j : ℕ) → j < length bs
      → Has (LiesIn contents IsSame bs) (map some (map full_slot bs)) j (slice_index_or (map contents bs) j [])
  stand_all IsSame itself bs j low =
      let s = stands bs j low in
      record {
        value = full_slot s.buffer;
        here = s.home;
        lies = record { first = s.buffer; buffer = s.buffer; was = s.got; laid = refl; same = itself s.buffer; bytes = s.bytes };
      }

  pub length-map : {A C : Type 0} (f : A → C) (xs : List A) → length (map f xs) ≡ length xs
  length-map f [] = refl
  length-map f (x ∷ xs) = ap suc (length-map f xs)

module _ {A : Type 0} (P : A → Type 0) where
  at_last : (xs : List A) (x d : A) → slice_index_or (xs ++ x ∷ []) (length xs) d ≡ x
  at_last [] x d = refl
  at_last (y ∷ ys) x d = at_last ys x d

  at_prefix : (xs ys : List A) (k : ℕ) (d : A) → k < length xs → slice_index_or (xs ++ ys) k d ≡ slice_index_or xs k d
  at_prefix [] ys k d low = absurd (omega arith)
  at_prefix (x ∷ xs) ys zero d low = refl
  at_prefix (x ∷ xs) ys (suc k) d low = at_prefix xs ys k d (omega arith)

  -- what holds of all holds of the last, and of those before it
  pub all_last : (xs : List A) (x : A) → All P (xs ++ x ∷ []) → P x
  all_last xs x all = subst P (at_last xs x x) (all (length xs) x (omega (arith, length-append xs (x ∷ []))))

  pub all_prefix : (xs ys : List A) → All P (xs ++ ys) → All P xs
  all_prefix xs ys all = λ k d low. subst P (at_prefix xs ys k d low) (all k d (omega (arith, length-append xs ys)))

-- the seats of a new band are its own
pub first_own : {B : Type 0} (band : Identity B) (n : ℕ) → All (λ (s : Standing B). s.band ≡ band) (first_standings band n)
first_own band zero = λ k d low. absurd (omega (arith, low))
first_own {B} band (suc n) =
    λ k d low.
    let xs = first_standings band n in
    let x = first_standing band n in
    elim (cases_lt k (length xs)) [
      | inl before ↦
          subst (λ (s : Standing B). s.band ≡ band) (sym (at_prefix (λ (s : Standing B). s.band ≡ band) xs (x ∷ []) k d before)) (first_own band n k d before)
      | inr after ↦
          let last : k ≡ length xs = omega (arith, after, low, length-append xs (x ∷ [])) in
          subst (λ (s : Standing B). s.band ≡ band)
          (sym (ap (λ j. slice_index_or (xs ++ x ∷ []) j d) last ∙ at_last (λ (s : Standing B). s.band ≡ band) xs x d)) refl
    ]

-- an index that came is in the hand
pub in_hand-come : {B : Type 0} (hand : List (ℕ × Option B)) (i : ℕ) (b : B) → in_hand hand i ≡ None
    → in_hand (hand ++ (i, Some b) ∷ []) i ≡ Some (Some b)
in_hand-come [] i b none = rw (eq-eqb i i refl) refl
in_hand-come (x ∷ xs) i b none =
    elim (cases_eq x.0 i) [
      | inl here ↦ let never : Some x.1 ≡ None = rw (eq-eqb x.0 i here) at none in absurd (cc)
      | inr away ↦ rw (ne_eqb x.0 i away) (in_hand-come xs i b (rw (ne_eqb x.0 i away) at none))
    ]
