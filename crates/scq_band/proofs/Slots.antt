-- The slots that a seat holds, by their indices: how often an index stands among them, the buffer in its slot, and what a turn, an
-- exchange, a slot that comes and one that goes leave of that.
use Rattle.std.proofs.Common.{◌≡◌, ◌≢◌, ℕ, zero, suc, ◌+◌, ◌<◌, ◌≤◌, Bool, true, false, ◌==◌, List, [], ◌∷◌, ◌++◌, length, refl, sym, ◌∙◌, ap, subst, inl, inr, arith, eq-eqb, ne_eqb}
use Rattle.std.specs.Prelude.{Some, None, Option, if◌then◌else◌, slice_index_or, slice_set}
use Rattle.std.proofs.lemmas.Bool.{cases_eq, cases_Bool}
use Rattle.scq_core.specs.Exports.{hand_without, holds_index}
use Rattle.scq_law.specs.Exports.{times}
use Rattle.scq_band.specs.Slots.{SlotStanding}
use Rattle.scq_band.specs.Exports.{front_index, in_hand, without_index, with_buffer, indices_of, noted, buffer_in, hand_of}
use Rattle.scq_band.specs.Exports.{AllGiven, IsRotation}

pub times-append : (i : ℕ) (xs ys : List ℕ) → times i (xs ++ ys) ≡ times i xs + times i ys
times-append i [] ys = omega arith
times-append i (x ∷ xs) ys = let rest = times-append i xs ys in omega (arith, rest)

none_more : (n : ℕ) → 0 + n ≡ n
none_more n = omega arith

-- a hand without an index
pub times-without : (i j : ℕ) (hand : List ℕ) → times j (hand_without i hand) ≡ (if j == i then 0 else times j hand)
times-without i j [] = elim (cases_eq j i) [ inl same ↦ rw (eq-eqb j i same) refl | inr other ↦ rw (ne_eqb j i other) refl ]
times-without i j (x ∷ xs) =
    let rest = times-without i j xs in
    elim (cases_eq x i) [
      | inl here ↦
          rw (eq-eqb x i here) (
          elim (cases_eq j i) [
            | inl same ↦ rest ∙ rw (eq-eqb j i same) refl
            | inr other ↦
                let apart : x ≢ j = λ e. other (sym e ∙ here) in
                rest ∙ rw (ne_eqb j i other, ne_eqb x j apart) (sym (none_more (times j xs)))
          ])
      | inr away ↦
          rw (ne_eqb x i away) (
          elim (cases_eq j i) [
            | inl same ↦
                let apart : x ≢ j = λ e. away (e ∙ same) in
                let zero_of : times j (hand_without i xs) ≡ 0 = rest ∙ rw (eq-eqb j i same) refl in
                rw (ne_eqb x j apart, eq-eqb j i same) (none_more (times j (hand_without i xs)) ∙ zero_of)
            | inr other ↦
                let same_of : times j (hand_without i xs) ≡ times j xs = rest ∙ rw (ne_eqb j i other) refl in
                rw (ne_eqb j i other) (ap (λ n. (if x == j then 1 else 0) + n) same_of)
          ])
    ]

pub holds_times : (i : ℕ) (hand : List ℕ) → 0 < times i hand → holds_index hand i ≡ true
holds_times i [] there = absurd (omega arith)
holds_times i (x ∷ xs) there =
    elim (cases_eq x i) [
      | inl here ↦ rw (eq-eqb x i here) refl
      | inr away ↦
          let some : 0 < 0 + times i xs = rw (ne_eqb x i away) at there in
          rw (ne_eqb x i away) (holds_times i xs (omega (arith, some)))
    ]

-- what is noted of an index: at most once; of one that is written, and of the others
pub noted_once : (held : List Bool) (i : ℕ) → noted held i ≤ 1
noted_once held i =
    elim (cases_Bool (slice_index_or held i false)) [ inl t ↦ rw t (omega arith) | inr f ↦ rw f (omega arith) ]

pub noted_low : (held : List Bool) (i : ℕ) → 0 < noted held i → i < length held
noted_low [] i some = let none : noted [] i ≡ 0 = refl in absurd (omega (arith, none, some))
noted_low (b ∷ bs) zero some = omega arith
noted_low (b ∷ bs) (suc i) some = let low = noted_low bs i some in omega (arith, low)

written : (held : List Bool) (i : ℕ) (b : Bool) → i < length held → slice_index_or (slice_set held i b) i false ≡ b
written [] i b low = absurd (omega arith)
written (x ∷ xs) zero b low = refl
written (x ∷ xs) (suc i) b low = written xs i b (omega arith)

pub noted_here : (held : List Bool) (i : ℕ) (b : Bool) → i < length held → noted (slice_set held i b) i ≡ (if b then 1 else 0)
noted_here held i b low = ap (λ (t : Bool). if t then 1 else 0) (written held i b low)

pub noted_else : (held : List Bool) (i j : ℕ) (b : Bool) → j ≢ i → noted (slice_set held i b) j ≡ noted held j
noted_else [] i j b other = refl
noted_else (x ∷ xs) zero zero b other = absurd (other refl)
noted_else (x ∷ xs) zero (suc j) b other = refl
noted_else (x ∷ xs) (suc i) zero b other = refl
noted_else (x ∷ xs) (suc i) (suc j) b other = noted_else xs i j b (λ e. other (ap suc e))

-- what is read of an index
pub noted_read : (held : List Bool) (i : ℕ) (b : Bool) → i < length held → b ≡ slice_index_or held i b → noted held i ≡ (if b then 1 else 0)
noted_read [] i b low is = absurd (omega arith)
noted_read (x ∷ xs) zero b low is = ap (λ (t : Bool). if t then 1 else 0) (sym is)
noted_read (x ∷ xs) (suc i) b low is = noted_read xs i b (omega arith) is

pub noted_none : (held : List Bool) (i : ℕ) (b : Bool) → i < length held → b ≡ slice_index_or held i b → b ≡ false → noted held i ≡ 0
noted_none held i b low is none = noted_read held i b low is ∙ ap (λ (t : Bool). if t then 1 else 0) none

module _ {S : Type 0} where
  pub indices-append : (xs ys : List (ℕ × S)) → indices_of (xs ++ ys) ≡ indices_of xs ++ indices_of ys
  indices-append [] ys = refl
  indices-append (x ∷ xs) ys = ap (λ (l : List ℕ). x.0 ∷ l) (indices-append xs ys)

  pub times-turned : (i : ℕ) (xs ys : List (ℕ × S)) → times i (indices_of (ys ++ xs)) ≡ times i (indices_of (xs ++ ys))
  times-turned i xs ys =
      ap (times i) (indices-append ys xs) ∙ times-append i (indices_of ys) (indices_of xs)
      ∙ (let a = times-append i (indices_of xs) (indices_of ys) in let b = ap (times i) (indices-append xs ys) in omega (arith, a, b))

  -- the slot of an index that stands among the slots, with what stands before and behind it
  pub record Sought (i : ℕ) (slots : List (ℕ × S)) : Type 0 where
    pub front : List (ℕ × S)
    pub slot : S
    pub behind : List (ℕ × S)
    pub was : slots ≡ front ++ (i, slot) ∷ behind

  pub sought : (i : ℕ) (slots : List (ℕ × S)) → 0 < times i (indices_of slots) → Sought i slots
  sought i [] there = absurd (omega arith)
  sought i (x ∷ xs) there =
      elim (cases_eq x.0 i) [
        | inl here ↦ record { front = []; slot = x.1; behind = xs; was = ap (λ (j : ℕ). (j, x.1) ∷ xs) here }
        | inr away ↦
            let both = times-append i (x.0 ∷ []) (indices_of xs) in
            let none : times i (x.0 ∷ []) ≡ 0 = rw (ne_eqb x.0 i away) refl in
            let s = sought i xs (omega (arith, both, none, there)) in
            record { front = x ∷ s.front; slot = s.slot; behind = s.behind; was = ap (λ (l : List (ℕ × S)). x ∷ l) s.was }
      ]

  pub times-rotated : (i : ℕ) (slots ms : List (ℕ × S)) → IsRotation slots ms → times i (indices_of ms) ≡ times i (indices_of slots)
  times-rotated i slots ms is =
      ap (λ (l : List (ℕ × S)). times i (indices_of l)) is.turned ∙ times-turned i is.front is.behind
      ∙ ap (λ (l : List (ℕ × S)). times i (indices_of l)) (sym is.was)

  -- an index that stands among the slots, and that of the first, has the first
  pub record Fronted (i : ℕ) (ms : List (ℕ × S)) : Type 0 where
    pub slot : S
    pub others : List (ℕ × S)
    pub is : ms ≡ (i, slot) ∷ others

  pub fronted : (i : ℕ) (ms : List (ℕ × S)) → 0 < times i (indices_of ms) → front_index ms ≡ i → Fronted i ms
  fronted i [] there first = absurd (omega arith)
  fronted i (x ∷ xs) there first = record { slot = x.1; others = xs; is = ap (λ k. (k, x.1) ∷ xs) first }

module _ {B : Type 0} where
  buffer_left : (j : ℕ) (xs ys : List (ℕ × SlotStanding B)) → times j (indices_of ys) ≡ 0 → buffer_in (xs ++ ys) j ≡ buffer_in xs j
  buffer_left j [] ys none = nothing ys none
    where
      nothing : (ys : List (ℕ × SlotStanding B)) → times j (indices_of ys) ≡ 0 → buffer_in ys j ≡ None
      nothing [] none = refl
      nothing (y ∷ ys) none =
          let both = times-append j (y.0 ∷ []) (indices_of ys) in
          elim (cases_eq y.0 j) [
            | inl same ↦
                let one : times j (y.0 ∷ []) ≡ 1 = rw (eq-eqb y.0 j same) refl in
                absurd (omega (arith, both, one, none))
            | inr other ↦ rw (ne_eqb y.0 j other) (nothing ys (omega (arith, both, none)))
          ]
  buffer_left j (x ∷ xs) ys none = ap (λ b. if x.0 == j then x.1.buffer else b) (buffer_left j xs ys none)

  buffer_right : (j : ℕ) (xs ys : List (ℕ × SlotStanding B)) → times j (indices_of xs) ≡ 0 → buffer_in (xs ++ ys) j ≡ buffer_in ys j
  buffer_right j [] ys none = refl
  buffer_right j (x ∷ xs) ys none =
      let both = times-append j (x.0 ∷ []) (indices_of xs) in
      elim (cases_eq x.0 j) [
        | inl same ↦
            let one : times j (x.0 ∷ []) ≡ 1 = rw (eq-eqb x.0 j same) refl in
            absurd (omega (arith, both, one, none))
        | inr other ↦ rw (ne_eqb x.0 j other) (buffer_right j xs ys (omega (arith, both, none)))
      ]

  -- a turn leaves each index its buffer
  pub buffer-rotated : (j : ℕ) (slots ms : List (ℕ × SlotStanding B)) → IsRotation slots ms → times j (indices_of slots) ≤ 1 → buffer_in ms j ≡ buffer_in slots j
  buffer-rotated j slots ms is once =
      let size = ap (times j) (ap indices_of is.was ∙ indices-append is.front is.behind) ∙ times-append j (indices_of is.front) (indices_of is.behind) in
      ap (λ (l : List (ℕ × SlotStanding B)). buffer_in l j) is.turned
      ∙ elim (cases_eq (times j (indices_of is.front)) 0) [
        | inl none ↦ buffer_left j is.behind is.front none ∙ sym (buffer_right j is.front is.behind none)
        | inr some ↦
            let none : times j (indices_of is.behind) ≡ 0 = omega (arith, some, size, once) in
            buffer_right j is.behind is.front none ∙ sym (buffer_left j is.front is.behind none)
      ]
      ∙ ap (λ (l : List (ℕ × SlotStanding B)). buffer_in l j) (sym is.was)

  module _ (IsSame : B → B → Type 0) (given : List B) where
    given_both : (xs ys : List (ℕ × SlotStanding B)) → AllGiven IsSame given xs → AllGiven IsSame given ys → AllGiven IsSame given (xs ++ ys)
    given_both [] ys one other = other
    given_both (x ∷ xs) ys one other = (one.0, given_both xs ys one.1 other)

    given_left : (xs ys : List (ℕ × SlotStanding B)) → AllGiven IsSame given (xs ++ ys) → AllGiven IsSame given xs
    given_left [] ys all = tt
    given_left (x ∷ xs) ys all = (all.0, given_left xs ys all.1)

    given_right : (xs ys : List (ℕ × SlotStanding B)) → AllGiven IsSame given (xs ++ ys) → AllGiven IsSame given ys
    given_right [] ys all = all
    given_right (x ∷ xs) ys all = given_right xs ys all.1

    pub given-rotated : (slots ms : List (ℕ × SlotStanding B)) → IsRotation slots ms → AllGiven IsSame given slots → AllGiven IsSame given ms
    given-rotated slots ms is all =
        let parts = subst (λ (l : List (ℕ × SlotStanding B)). AllGiven IsSame given l) is.was all in
        subst (λ (l : List (ℕ × SlotStanding B)). AllGiven IsSame given l) (sym is.turned)
        (given_both is.behind is.front (given_right is.front is.behind parts) (given_left is.front is.behind parts))

  -- what a hand has of an index
  pub held_times : (slots : List (ℕ × SlotStanding B)) (hand : List ℕ) (i : ℕ) (o : Option B) → in_hand (hand_of slots hand) i ≡ Some o
      → (0 < times i hand) × (buffer_in slots i ≡ o)
  held_times slots [] i o is = absurd (cc)
  held_times slots (x ∷ xs) i o is =
      elim (cases_eq x i) [
        | inl here ↦
            let test = eq-eqb x i here in
            let found : Some (buffer_in slots x) ≡ Some o = rw test at is in
            let same : buffer_in slots x ≡ o = cc in
            (rw test (omega arith), ap (buffer_in slots) (sym here) ∙ same)
        | inr away ↦
            let test = ne_eqb x i away in
            let rest = held_times slots xs i o (rw test at is) in
            let some = rest.0 in
            (rw test (omega (arith, some)), rest.1)
      ]

  -- the hand after an exchange of the buffer in the first slot
  pub exchanged_hand : (slots ms others : List (ℕ × SlotStanding B)) (i : ℕ) (x y : SlotStanding B) → ((j : ℕ) → buffer_in ms j ≡ buffer_in slots j)
      → ms ≡ (i, x) ∷ others → (hand : List ℕ) → hand_of ((i, y) ∷ others) hand ≡ with_buffer i y.buffer (hand_of slots hand)
  exchanged_hand slots ms others i x y same is [] = refl
  exchanged_hand slots ms others i x y same is (j ∷ js) =
      let rest = exchanged_hand slots ms others i x y same is js in
      elim (cases_eq j i) [
        | inl here ↦
            let one = eq-eqb j i here in
            let other = eq-eqb i j (sym here) in
            rw (one, other) (ap (λ (l : List (ℕ × Option B)). (j, y.buffer) ∷ l) rest)
        | inr away ↦
            let one = ne_eqb j i away in
            let other = ne_eqb i j (λ e. away (sym e)) in
            let b : buffer_in others j ≡ buffer_in slots j =
            (rw other refl) ∙ ap (λ (l : List (ℕ × SlotStanding B)). buffer_in l j) (sym is) ∙ same j in
            rw (one, other) (ap (λ o. (j, o) ∷ hand_of ((i, y) ∷ others) js) b ∙ ap (λ (l : List (ℕ × Option B)). (j, buffer_in slots j) ∷ l) rest)
      ]

  -- the hand once the first slot went home
  pub put_hand : (slots ms others : List (ℕ × SlotStanding B)) (i : ℕ) (x : SlotStanding B) → ((j : ℕ) → buffer_in ms j ≡ buffer_in slots j)
      → ms ≡ (i, x) ∷ others → (hand : List ℕ) → hand_of others (hand_without i hand) ≡ without_index i (hand_of slots hand)
  put_hand slots ms others i x same is [] = refl
  put_hand slots ms others i x same is (j ∷ js) =
      let rest = put_hand slots ms others i x same is js in
      elim (cases_eq j i) [
        | inl here ↦ rw (eq-eqb j i here) rest
        | inr away ↦
            let one = ne_eqb j i away in
            let other = ne_eqb i j (λ e. away (sym e)) in
            let b : buffer_in others j ≡ buffer_in slots j =
            (rw other refl) ∙ ap (λ (l : List (ℕ × SlotStanding B)). buffer_in l j) (sym is) ∙ same j in
            rw one (ap (λ o. (j, o) ∷ hand_of others (hand_without i js)) b ∙ ap (λ (l : List (ℕ × Option B)). (j, buffer_in slots j) ∷ l) rest)
      ]
