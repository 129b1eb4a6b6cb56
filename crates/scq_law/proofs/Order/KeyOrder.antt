-- What a sort by keys gives: no member's key comes before the one in front of it.
use Rattle.std.proofs.Common.{◌≡◌, ℕ, ◌+◌, ◌<◌, ◌⊎◌, inl, inr, true, false, List, refl, arith, eq-eqb, Ordering, Less, Equal}
use Rattle.std.specs.Prelude.{slice_index_or}
use Rattle.std.specs.List.Sorted.{IsSortedByKey}
use Rattle.std.specs.Ordering.{is_lt, nat_cmp, ordering_then}
use Rattle.std.proofs.lemmas.Bool.{cases_lt, cases_eq, lt-ltb, le-ltb}
use Rattle.scq_law.specs.declared.marks.Member.{Member}
use Rattle.scq_law.specs.Exports.{IsNoLater, AreInKeyOrder}

-- two numbers, by their order
cmp_cases : (x y : ℕ) → ((x < y) × (nat_cmp x y ≡ Less)) ⊎ ((x ≡ y) × (nat_cmp x y ≡ Equal)) ⊎ (y < x)
cmp_cases x y =
    elim (cases_lt x y) [
      | inl less ↦ let is = lt-ltb x y less in inl (less, rw is refl)
      | inr high ↦
          elim (cases_eq x y) [
            | inl same ↦ let not_less = le-ltb x y high in let equal = eq-eqb x y same in inr (inl (same, rw (not_less, equal) refl))
            | inr apart ↦ inr (inr (omega arith))
          ]
    ]

abbrev pub key_cmp : ℕ × ℕ × ℕ → ℕ × ℕ × ℕ → Ordering
key_cmp p q = ordering_then (ordering_then (nat_cmp p.0 q.0) (nat_cmp p.1 q.1)) (nat_cmp p.2 q.2)

-- a key that isn't less than another isn't before it
no_later : (f g : ℕ × ℕ × ℕ) → is_lt (key_cmp g f) ≡ false → IsNoLater f g
no_later f g not_less =
    elim (cmp_cases g.0 f.0) [
      | inl less ↦ let is = less.1 in let clash : true ≡ false = rw is at not_less in absurd (cc)
      | inr (inr high) ↦ inl high
      | inr (inl same) ↦
          let points = same.0 in
          let first = same.1 in
          let second : is_lt (ordering_then (nat_cmp g.1 f.1) (nat_cmp g.2 f.2)) ≡ false = rw first at not_less in
          elim (cmp_cases g.1 f.1) [
            | inl less ↦ let is = less.1 in let clash : true ≡ false = rw is at second in absurd (cc)
            | inr (inr high) ↦ inr (omega arith, inl high)
            | inr (inl also) ↦
                let kinds = also.0 in
                let is = also.1 in
                let third : is_lt (nat_cmp g.2 f.2) ≡ false = rw is at second in
                elim (cmp_cases g.2 f.2) [
                  | inl less ↦ let at = less.1 in let clash : true ≡ false = rw at at third in absurd (cc)
                  | inr (inr high) ↦ inr (omega arith, inr (omega arith, omega arith))
                  | inr (inl last) ↦ let places = last.0 in inr (omega arith, inr (omega arith, omega arith))
                ]
          ]
    ]

pub in_order : (members : List Member) → IsSortedByKey (λ (m : Member). m.key) key_cmp members → AreInKeyOrder members
in_order members sorted k d within =
    no_later (slice_index_or members k d).key (slice_index_or members (k + 1) d).key (sorted k d (omega arith) within)
