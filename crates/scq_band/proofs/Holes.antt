-- Slots that are holes, all of them, as they go home one after the other.
use Rattle.std.proofs.Common.{◌≡◌, ℕ, ◌+◌, ◌≤◌, true, false, List, [], ◌∷◌, refl, sym, ◌∙◌, ap, subst, inl, inr, arith, eq-eqb}
use Rattle.std.specs.Prelude.{Option, Some, None, is_none, All, if◌then◌else◌}
use Rattle.std.proofs.lemmas.Bool.{cases_Bool}
use Rattle.atomic_table.specs.Table.{rest}
use Rattle.scq_law.specs.Exports.{times}
use Rattle.scq_band.specs.Slots.{SlotStanding}
use Rattle.scq_band.specs.Exports.{times_lifted, AreHoles, IsLaidBack, indices_of}

pub none_is : {A : Type 0} (o : Option A) → is_none o ≡ true → o ≡ None
none_is None t = refl
none_is (Some x) t = absurd (cc)

pub some_is : {A : Type 0} (o : Option A) → is_none o ≡ false → (x : A) × (o ≡ Some x)
some_is None f = absurd (cc)
some_is (Some x) f = (x, refl)

-- of a list of which each has what follows from a test
pub all_where : {X : Type 0} (P Q : X → Type 0) (xs : List X) → ((x : X) → P x → Q x) → All P xs → All Q xs
all_where P Q xs f all k d low = f _ (all k d low)

pub all_never : {X : Type 0} (Q : X → Type 0) (xs : List X) → ((x : X) → Q x) → All Q xs
all_never Q xs f k d low = f _

module _ {B : Type 0} where
  lifted_few : (slots : List (ℕ × SlotStanding B)) (i : ℕ) → times_lifted i slots ≤ times i (indices_of slots)
  lifted_few [] i = omega arith
  lifted_few (x ∷ xs) i =
      let rest = lifted_few xs i in
      elim (cases_Bool (is_none x.1.buffer)) [ inl t ↦ rw t (omega (arith, rest)) | inr f ↦ rw f (omega (arith, rest)) ]

  front_of : (i : ℕ) (slot : SlotStanding B) (others : List (ℕ × SlotStanding B)) → AreHoles ((i, slot) ∷ others) → slot.buffer ≡ None
  front_of i slot others holes =
      let all = holes i in
      let few = lifted_few others i in
      elim (cases_Bool (is_none slot.buffer)) [
        | inl t ↦ none_is slot.buffer t
        | inr f ↦
            let laid : times_lifted i ((i, slot) ∷ others) ≡ times_lifted i others = rw f (omega arith) in
            let here : times i (indices_of ((i, slot) ∷ others)) ≡ 1 + times i (indices_of others) = rw (eq-eqb i i refl) refl in
            absurd (omega (arith, all, few, laid, here))
      ]

  -- the first is one, and so are the others
  pub front_hole : (slots : List (ℕ × SlotStanding B)) (i : ℕ) (slot : SlotStanding B) → slots ≡ (i, slot) ∷ rest slots → AreHoles slots → slot.buffer ≡ None
  front_hole slots i slot is holes = front_of i slot (rest slots) (subst (λ (l : List (ℕ × SlotStanding B)). AreHoles l) is holes)

  rest_of : (x : ℕ × SlotStanding B) (others : List (ℕ × SlotStanding B)) → x.1.buffer ≡ None → AreHoles (x ∷ others) → AreHoles others
  rest_of x others none holes j =
      let all = holes j in
      let first : times_lifted j (x ∷ others) ≡ times j (x.0 ∷ []) + times_lifted j others =
      ap (λ (o : Option B). (if is_none o then times j (x.0 ∷ []) else 0) + times_lifted j others) none in
      omega (arith, all, first)

  pub rest_holes : (slots : List (ℕ × SlotStanding B)) (i : ℕ) (slot : SlotStanding B) → slots ≡ (i, slot) ∷ rest slots → AreHoles slots → AreHoles (rest slots)
  rest_holes slots i slot is holes =
      rest_of (i, slot) (rest slots) (front_hole slots i slot is holes) (subst (λ (l : List (ℕ × SlotStanding B)). AreHoles l) is holes)

  -- laying the first back leaves the others
  pub laid_rest : (i : ℕ) (slots later : List (ℕ × SlotStanding B)) (out left : List (ℕ × B)) → IsLaidBack i slots out later left → rest later ≡ rest slots
  laid_rest i slots later out left l =
      ap rest l.laid ∙ sym (elim l.was [ inl was ↦ ap rest was.0 | inr was ↦ ap rest was.0 ])
