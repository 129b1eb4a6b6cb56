-- What a hand holds after an index leaves it or comes to it, and how often.
use Rattle.std.proofs.Common.{◌≡◌, ◌≢◌, ℕ, ◌+◌, ◌<◌, ◌≤◌, true, false, ◌||◌, List, [], ◌∷◌, ◌++◌, refl, sym, ◌∙◌, ◌⊎◌, inl, inr, arith, eqb-true, eq-eqb, ne_eqb}
use Rattle.std.specs.Prelude.{◌==◌}
use Rattle.std.proofs.lemmas.Bool.{cases_Bool, cases_eq, or_cases, or_left, or_right}
use Rattle.scq_core.specs.Exports.{hand_without, holds_index}
use Rattle.scq_law.specs.Exports.{times}

pub holds_without : (hand : List ℕ) (i x : ℕ) → holds_index (hand_without i hand) x ≡ true → (holds_index hand x ≡ true) × (x ≢ i)
holds_without [] i x has = absurd (cc)
holds_without (y ∷ hand) i x has =
    elim (cases_eq y i) [
      | inl same ↦
          let rest : holds_index (hand_without i hand) x ≡ true = rw (eq-eqb y i same) at has in
          let old = holds_without hand i x rest in
          (or_right (y == x) (holds_index hand x) old.0, old.1)
      | inr other ↦
          let both : ((y == x) || holds_index (hand_without i hand) x) ≡ true = rw (ne_eqb y i other) at has in
          elim (or_cases (y == x) (holds_index (hand_without i hand) x) both) [
            | inl here ↦
                let is : y ≡ x = eqb-true y x here in
                (or_left (y == x) (holds_index hand x) here, λ bad. other (is ∙ bad))
            | inr rest ↦ let old = holds_without hand i x rest in (or_right (y == x) (holds_index hand x) old.0, old.1)
          ]
    ]

pub without_holds : (hand : List ℕ) (i x : ℕ) → x ≢ i → holds_index hand x ≡ true → holds_index (hand_without i hand) x ≡ true
without_holds [] i x apart has = has
without_holds (y ∷ hand) i x apart has =
    elim (cases_eq y i) [
      | inl same ↦
          rw (eq-eqb y i same)
          (elim (or_cases (y == x) (holds_index hand x) has) [
            | inl here ↦ let is : y ≡ x = eqb-true y x here in absurd (apart (sym is ∙ same))
            | inr rest ↦ without_holds hand i x apart rest
          ])
      | inr other ↦
          rw (ne_eqb y i other)
          (elim (or_cases (y == x) (holds_index hand x) has) [
            | inl here ↦ or_left (y == x) (holds_index (hand_without i hand) x) here
            | inr rest ↦ or_right (y == x) (holds_index (hand_without i hand) x) (without_holds hand i x apart rest)
          ])
    ]

pub holds_pushed : (hand : List ℕ) (i x : ℕ) → holds_index (hand ++ i ∷ []) x ≡ true → (holds_index hand x ≡ true) ⊎ (x ≡ i)
holds_pushed [] i x has =
    elim (or_cases (i == x) false has) [ inl here ↦ inr (sym (eqb-true i x here)) | inr none ↦ absurd (cc) ]
holds_pushed (y ∷ hand) i x has =
    elim (or_cases (y == x) (holds_index (hand ++ i ∷ []) x) has) [
      | inl here ↦ inl (or_left (y == x) (holds_index hand x) here)
      | inr rest ↦
          elim (holds_pushed hand i x rest) [
            | inl old ↦ inl (or_right (y == x) (holds_index hand x) old)
            | inr new ↦ inr new
          ]
    ]

pub pushed_holds : (hand : List ℕ) (i x : ℕ) → holds_index hand x ≡ true → holds_index (hand ++ i ∷ []) x ≡ true
pushed_holds [] i x has = absurd (cc)
pushed_holds (y ∷ hand) i x has =
    elim (or_cases (y == x) (holds_index hand x) has) [
      | inl here ↦ or_left (y == x) (holds_index (hand ++ i ∷ []) x) here
      | inr rest ↦ or_right (y == x) (holds_index (hand ++ i ∷ []) x) (pushed_holds hand i x rest)
    ]

pub pushed_here : (hand : List ℕ) (i : ℕ) → holds_index (hand ++ i ∷ []) i ≡ true
pushed_here [] i = or_left (i == i) false (eq-eqb i i refl)
pushed_here (y ∷ hand) i = or_right (y == i) (holds_index (hand ++ i ∷ []) i) (pushed_here hand i)

-- how often
pub times_seen : (hand : List ℕ) (i : ℕ) → 0 < times i hand → holds_index hand i ≡ true
times_seen [] i some = absurd (omega arith)
times_seen (y ∷ hand) i some =
    elim (cases_Bool (y == i)) [
      | inl here ↦ or_left (y == i) (holds_index hand i) here
      | inr other ↦
          let rest : 0 < times i hand = let all : 0 < 0 + times i hand = rw other at some in omega arith in
          or_right (y == i) (holds_index hand i) (times_seen hand i rest)
    ]

pub seen_times : (hand : List ℕ) (i : ℕ) → holds_index hand i ≡ true → 0 < times i hand
seen_times [] i has = absurd (cc)
seen_times (y ∷ hand) i has =
    elim (cases_Bool (y == i)) [
      | inl here ↦ rw here (omega arith)
      | inr other ↦
          elim (or_cases (y == i) (holds_index hand i) has) [
            | inl here ↦ absurd (cc)
            | inr rest ↦ let old = seen_times hand i rest in rw other (omega arith)
          ]
    ]

pub unseen_times : (hand : List ℕ) (i : ℕ) → holds_index hand i ≡ false → times i hand ≡ 0
unseen_times hand i none =
    elim (cases_eq (times i hand) 0) [
      | inl zero_times ↦ zero_times
      | inr some ↦ let seen = times_seen hand i (omega arith) in absurd (cc)
    ]

pub times-append : (xs ys : List ℕ) (i : ℕ) → times i (xs ++ ys) ≡ times i xs + times i ys
times-append [] ys i = omega arith
times-append (x ∷ xs) ys i = let rest = times-append xs ys i in omega arith

pub times-without : (hand : List ℕ) (i x : ℕ) → times x (hand_without i hand) ≤ times x hand
times-without [] i x = omega arith
times-without (y ∷ hand) i x =
    let rest = times-without hand i x in
    elim (cases_Bool (y == i)) [ inl same ↦ rw same (omega arith) | inr other ↦ rw other (omega arith) ]
