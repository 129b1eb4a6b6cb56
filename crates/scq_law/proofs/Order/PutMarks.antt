-- The point of a put, from where the decisions with a Head no further than its place end.
use Rattle.std.proofs.Common.{◌≡◌, ℕ, ◌-◌, ◌<◌, ◌≤◌, inl, inr, true, false, List, length, get_or, refl, ap, sym, ◌∙◌, arith}
use Rattle.std.specs.Prelude.{max, nat_le}
use Rattle.std.specs.List.{Contains}
use Rattle.std.specs.List.Sorted.{IsPartitionPoint}
use Rattle.std.proofs.lemmas.Bool.{cases_lt, leb-true, leb-false}
use Rattle.scq_law.specs.declared.marks.Decision.{Decision}
use Rattle.scq_law.specs.Exports.{Rise, IsPutMark}
use Rattle.scq_law.proofs.Order.RunStates.{get_or_any}

-- the decisions before this position have a Head no further than the place, and the others have
abbrev pub Ends : List Decision → ℕ → ℕ → Type 0
Ends ds place after = IsPartitionPoint (λ (d : Decision). nat_le d.head place ≡ true) (λ (d : Decision). nat_le d.head place ≡ false) ds after

-- one whose Head is no further stands before it
stands_before : (ds : List Decision) (place after k : ℕ) (d : Decision) → Ends ds place after → k < length ds → get_or ds k d ≡ d → d.head ≤ place → k < after
stands_before ds place after k d ends low is head =
    elim (cases_lt k after) [
      | inl less ↦ less
      | inr past ↦
          let further : nat_le d.head place ≡ false = ap (λ (e : Decision). nat_le e.head place) (sym is) ∙ ends.1 k d past low in
          let over = leb-false d.head place further in
          absurd (omega arith)
    ]

pub mark_first : (ds : List Decision) (first place : ℕ) → Ends ds place 0 → IsPutMark ds first place first
mark_first ds first place ends =
    record {
      from_first = omega arith;
      from_decisions = λ d at head. (let before = stands_before ds place 0 at.0 d ends at.1 at.2 head in absurd (omega arith));
      reached = inl refl;
    }

mark_last : (ds : List Decision) (first place after : ℕ) (d : Decision) → Rise ds → Ends ds place after → 0 < after → after ≤ length ds
    → d ≡ get_or ds (after - 1) d → IsPutMark ds first place (max first d.point)
mark_last ds first place after d rise ends some within is =
    let head : d.head ≤ place = leb-true d.head place (ap (λ (e : Decision). nat_le e.head place) is ∙ ends.0 (after - 1) d (omega arith) (omega arith)) in
    let stands : Contains ds d = (after - 1, omega arith, sym is) in
    record {
      from_first = omega arith;
      from_decisions =
          λ e at low.
          let before = stands_before ds place after at.0 e ends at.1 at.2 low in
          let up = rise.points at.0 (after - 1) e (omega arith) (omega arith) in
          let mine : e.point ≡ (get_or ds at.0 e).point = ap (λ (x : Decision). x.point) (sym at.2) in
          let last : (get_or ds (after - 1) e).point ≡ d.point = ap (λ (x : Decision). x.point) (get_or_any ds (after - 1) e d (omega arith) ∙ sym is) in
          omega arith;
      reached =
          elim (cases_lt first d.point) [
            | inl less ↦ inr (d, stands, head, omega arith)
            | inr high ↦ inl (omega arith)
          ];
    }

-- the one before that position, read with any default
pub mark_before : (ds : List Decision) (first place after : ℕ) (e : Decision) → Rise ds → Ends ds place after → 0 < after → after ≤ length ds
    → IsPutMark ds first place (max first (get_or ds (after - 1) e).point)
mark_before ds first place after e rise ends some within =
    mark_last ds first place after (get_or ds (after - 1) e) rise ends some within (get_or_any ds (after - 1) e (get_or ds (after - 1) e) (omega arith))
