-- A seat whose first slot has its buffer again may bring it home, and goes on with the others; what is out grows less by as many
-- as were lifted. Each slot goes home with the bytes that its buffer had, in it or where it was out.
use Rattle.std.proofs.Common.{◌≡◌, ◌⊎◌, ℕ, zero, suc, ◌+◌, ◌<◌, ◌≤◌, ◌==◌, Bool, true, List, [], ◌∷◌, ◌++◌, length, refl, sym, ◌∙◌, ap, subst, inl, inr, arith, append_assoc, append-nil, eq-eqb, ne_eqb}
use Rattle.std.specs.Prelude.{Option, Some, None, is_none, if◌then◌else◌, slice_index_or, sum_by, IsTrue}
use Rattle.std.specs.List.{Contains}
use Rattle.std.specs.List.Sorted.{IsPermutation}
use Rattle.std.proofs.lemmas.Bool.{cases_eq, cases_lt}
use Rattle.std.proofs.lemmas.List.Elements.{Contains-append_left, Contains-append_right}
use Rattle.std.proofs.lemmas.List.Sums.{sum_by-cons}
use Rattle.std.proofs.lemmas.List.Sorted.{IsPermutation-sym, Contains-permutation, sum_by-IsPermutation}
use Rattle.atomic_table.specs.Table.{Me, rest}
use Rattle.scq_law.specs.Exports.{times}
use Rattle.scq_band.specs.Slots.{SlotStanding}
use Rattle.scq_band.specs.Exports.{LiesIn, my, front_index, front_bytes, IsAsGiven, noted, AreNoted, IsRotation, indices_of, at_home, full_slot, MayBring, times_lifted}
use Rattle.scq_band.specs.Exports.{IsLaidBack, AreHoles, AreHome, WentHome, AllOutGiven, MayLeave}
use Rattle.scq_band.specs.Known.{Known}
use Rattle.scq_band.proofs.Slots.{times-append, indices-append, times-rotated, given-rotated, noted_once, noted_low, noted_read, fronted}

-- how often an index stands, as a sum
times-sum : {A : Type 0} (i : ℕ) (xs : List (ℕ × A)) → times i (indices_of xs) ≡ sum_by (λ (o : ℕ × A). if o.0 == i then 1 else 0) xs
times-sum i [] = refl
times-sum {A} i (x ∷ xs) =
    let rest = times-sum i xs in
    let cons = sum_by-cons (λ (o : ℕ × A). if o.0 == i then 1 else 0) x xs in
    omega arith

times-permuted : {A : Type 0} (i : ℕ) (xs ys : List (ℕ × A)) → IsPermutation xs ys → times i (indices_of ys) ≡ times i (indices_of xs)
times-permuted {A} i xs ys perm =
    times-sum i ys ∙ sum_by-IsPermutation (λ (o : ℕ × A). if o.0 == i then 1 else 0) xs ys perm ∙ sym (times-sum i xs)

pub contains_behind : {A : Type 0} (x y : A) (xs : List A) → Contains xs y → Contains (x ∷ xs) y
contains_behind x y xs has = (suc has.0, (let low = has.1 in omega arith), has.2)

contained_at : {A : Type 0} (x y : A) (xs : List A) (k : ℕ) → k < length (x ∷ xs) → slice_index_or (x ∷ xs) k y ≡ y → (x ≡ y) ⊎ Contains xs y
contained_at x y xs zero low is = inl is
contained_at x y xs (suc k) low is = inr (k, omega arith, is)

pub contained_cases : {A : Type 0} (x y : A) (xs : List A) → Contains (x ∷ xs) y → (x ≡ y) ⊎ Contains xs y
contained_cases x y xs has = contained_at x y xs has.0 has.1 has.2

pub contains_none : {A : Type 0} (y : A) → Contains [] y → ⊥
contains_none y has = let low = has.1 in omega (arith, low)

pub contained_part : {A : Type 0} (xs ys : List A) (y : A) → Contains (xs ++ ys) y → Contains xs y ⊎ Contains ys y
contained_part [] ys y has = inr has
contained_part (x ∷ xs) ys y has =
    elim (contained_cases x y (xs ++ ys) has) [
      | inl same ↦ inl (0, omega arith, same)
      | inr there ↦ elim (contained_part xs ys y there) [ inl one ↦ inl (contains_behind x y xs one) | inr other ↦ inr other ]
    ]

-- where no slot has gone home
home_none : (v : Known) → v.seats ≡ my v ∷ [] → at_home [] v ≡ v
home_none v alone =
    ap (λ (h : List (ℕ × List ℕ)). record v { seats = record (my v) { brought = h } ∷ [] }) (append-nil (my v).brought)
    ∙ ap (λ ys. record v { seats = ys }) (sym alone)

module _ {B : Type 0} where
  -- the slot of an index that stands first, and its buffer is among those that are out where it is lifted
  pub stands_first : (IsSame : B → B → Type 0) (buffers : List B) (me : Me (SlotStanding B) Known) (i : ℕ) (out : List (ℕ × B))
      → MayLeave IsSame buffers me out → 0 < times i (indices_of me.1) → front_index me.1 ≡ i
      → (slot : SlotStanding B) × (me.1 ≡ (i, slot) ∷ rest me.1) × (IsTrue (is_none slot.buffer) → 0 < times i (indices_of out))
  stands_first IsSame buffers me i out may there first =
      let f = fronted i me.1 there first in
      let is : me.1 ≡ (i, f.slot) ∷ rest me.1 = f.is ∙ ap (λ (os : List (ℕ × SlotStanding B)). (i, f.slot) ∷ os) (sym (ap rest f.is)) in (
        f.slot,
        is,
        λ lifted.
            let some = may.lifted i in
            let front : times_lifted i me.1 ≡ times_lifted i ((i, f.slot) ∷ rest me.1) = ap (times_lifted i) is in
            let one : times_lifted i ((i, f.slot) ∷ rest me.1) ≡ 1 + times_lifted i (rest me.1) = rw (lifted, eq-eqb i i refl) refl in
            omega (arith, some, front, one),
      )

  lifted-append : (i : ℕ) (xs ys : List (ℕ × SlotStanding B)) → times_lifted i (xs ++ ys) ≡ times_lifted i xs + times_lifted i ys
  lifted-append i [] ys = omega arith
  lifted-append i (x ∷ xs) ys = let more = lifted-append i xs ys in omega (arith, more)

  -- where the slots were turned, as many are lifted, and the same stand there
  pub lifted-rotated : (i : ℕ) (slots ms : List (ℕ × SlotStanding B)) → IsRotation slots ms → times_lifted i ms ≡ times_lifted i slots
  lifted-rotated i slots ms is =
      let was = ap (times_lifted i) is.was ∙ lifted-append i is.front is.behind in
      let now = ap (times_lifted i) is.turned ∙ lifted-append i is.behind is.front in
      omega (arith, was, now)

  pub holes-rotated : (slots ms : List (ℕ × SlotStanding B)) → IsRotation slots ms → AreHoles slots → AreHoles ms
  holes-rotated slots ms is holes i =
      lifted-rotated i slots ms is ∙ holes i ∙ sym (times-rotated i slots ms is)

  contained-rotated : (x : ℕ × SlotStanding B) (slots ms : List (ℕ × SlotStanding B)) → IsRotation slots ms → Contains slots x → Contains ms x
  contained-rotated x slots ms is has =
      subst (λ (l : List (ℕ × SlotStanding B)). Contains l x) (sym is.turned)
      (elim (contained_part is.front is.behind x (subst (λ (l : List (ℕ × SlotStanding B)). Contains l x) is.was has)) [
        | inl one ↦ Contains-append_right is.behind is.front x one
        | inr other ↦ Contains-append_left is.behind is.front x other
      ])

  -- so the seat may leave as before, and no slot has gone home
  pub turned_may : (IsSame : B → B → Type 0) (buffers : List B) (me later : Me (SlotStanding B) Known) (out : List (ℕ × B))
      → MayLeave IsSame buffers me out → later.0 ≡ me.0 → IsRotation me.1 later.1 → MayLeave IsSame buffers later out
  turned_may IsSame buffers me later out may view is =
      subst (λ (v : Known). MayLeave IsSame buffers (v, later.1) out) (sym view) (
      record {
        seats = may.seats;
        held = λ j. let same = times-rotated j me.1 later.1 is in let more = may.held j in omega (arith, same, more);
        once = λ j. let same = times-rotated j me.1 later.1 is in let few = may.once j in omega (arith, same, few);
        given = given-rotated IsSame buffers me.1 later.1 is may.given;
        out_given = may.out_given;
        lifted = λ j. let same = lifted-rotated j me.1 later.1 is in let some = may.lifted j in omega (arith, same, some);
      })

  pub turned_went : (contents : B → List ℕ) (me later : Me (SlotStanding B) Known) (out : List (ℕ × B)) → me.0.seats ≡ my me.0 ∷ []
      → later.0 ≡ me.0 → IsRotation me.1 later.1 → WentHome contents me out later out
  turned_went contents me later out alone view is =
      record {
        gone = [];
        view = view ∙ sym (home_none me.0 alone);
        are =
            record {
              indices = λ j. let same = times-rotated j me.1 later.1 is in omega (arith, same);
              laid = λ i b has. inl (contained-rotated (i, full_slot b) me.1 later.1 is has);
              lifted = λ o has. inl has;
            };
      }

  pub went_none : (contents : B → List ℕ) (IsSame : B → B → Type 0) (buffers : List B) (me : Me (SlotStanding B) Known)
      (out : List (ℕ × B)) → MayLeave IsSame buffers me out → WentHome contents me out me out
  went_none contents IsSame buffers me out may =
      record {
        gone = [];
        view = sym (home_none me.0 may.seats);
        are = record { indices = λ j. omega arith; laid = λ i b has. inl has; lifted = λ o has. inl has };
      }

  -- more have gone home
  pub went_more : (contents : B → List ℕ) (me mid next : Me (SlotStanding B) Known) (out more left : List (ℕ × B)) → WentHome contents me out mid more
      → WentHome contents mid more next left → WentHome contents me out next left
  went_more contents me mid next out more left first second =
      let a = first.gone in
      let b = second.gone in
      let twice : at_home b (at_home a me.0) ≡ at_home (a ++ b) me.0 =
      ap (λ (h : List (ℕ × List ℕ)). record me.0 { seats = record (my me.0) { brought = h } ∷ [] }) (append_assoc (my me.0).brought a b) in
      record {
        gone = a ++ b;
        view = second.view ∙ ap (at_home b) first.view ∙ twice;
        are =
            record {
              indices =
                  λ j.
                  let both = ap (times j) (indices-append a b) ∙ times-append j (indices_of a) (indices_of b) in
                  let one = first.are.indices j in
                  let other = second.are.indices j in
                  omega (arith, both, one, other);
              laid =
                  λ i x has.
                  elim (first.are.laid i x has) [
                    | inl there ↦
                        elim (second.are.laid i x there) [
                          | inl still ↦ inl still
                          | inr now ↦ inr (Contains-append_right a b (i, contents x) now)
                        ]
                    | inr before ↦ inr (Contains-append_left a b (i, contents x) before)
                  ];
              lifted =
                  λ o has.
                  elim (first.are.lifted o has) [
                    | inl there ↦
                        elim (second.are.lifted o there) [
                          | inl still ↦ inl still
                          | inr now ↦ inr (Contains-append_right a b (o.0, contents o.1) now)
                        ]
                    | inr before ↦ inr (Contains-append_left a b (o.0, contents o.1) before)
                  ];
            };
      }

  -- after the first slot has gone home
  pub record Leaves (contents : B → List ℕ) (IsSame : B → B → Type 0) (buffers : List B) (me : Me (SlotStanding B) Known) (i : ℕ)
      (out : List (ℕ × B)) (later : List (ℕ × SlotStanding B)) (left : List (ℕ × B)) : Type 0 where
    pub bring : MayBring (LiesIn contents IsSame buffers) (front_bytes contents later) (me.0, later)
    pub index : front_index later ≡ i
    pub may : MayLeave IsSame buffers (at_home ((front_index later, front_bytes contents later) ∷ []) me.0, rest later) left
    pub out_less : (j : ℕ) → times j (indices_of left) + times_lifted j me.1 ≡ times j (indices_of out) + times_lifted j (rest later)
    pub are : AreHome contents ((front_index later, front_bytes contents later) ∷ []) me.1 (rest later) out left

  module _ (contents : B → List ℕ) (IsSame : B → B → Type 0) (buffers : List B) (v : Known) (i : ℕ) (b : B) (xs : List (ℕ × SlotStanding B)) where
    -- the slot has its buffer, and those that are left are these
    leaves_with : (slot : SlotStanding B) (out left : List (ℕ × B)) → MayLeave IsSame buffers (v, (i, slot) ∷ xs) out → IsAsGiven IsSame buffers i b
        → AllOutGiven IsSame buffers left
        → ((j : ℕ) → times j (indices_of left) + times_lifted j ((i, slot) ∷ xs) ≡ times j (indices_of out) + times_lifted j xs)
        → ((x : B) → slot ≡ full_slot x → b ≡ x) → ((o : ℕ × B) → Contains out o → Contains left o ⊎ ((i, b) ≡ o))
        → Leaves contents IsSame buffers (v, (i, slot) ∷ xs) i out ((i, record { buffer = Some b }) ∷ xs) left
    leaves_with slot out left may its given less same came =
        let split = λ (j : ℕ). times-append j (i ∷ []) (indices_of xs) in
        let gone : (j : ℕ) → times j (indices_of ((my v).brought ++ (i, contents b) ∷ [])) ≡ times j (indices_of (my v).brought) + times j (i ∷ []) =
        λ j.
        ap (times j) (indices-append (my v).brought ((i, contents b) ∷ [])) ∙ times-append j (indices_of (my v).brought) (i ∷ []) in
        record {
          bring =
              record {
                seats = may.seats;
                held =
                    let more = may.held i in
                    let one : times i (i ∷ []) ≡ 1 = rw (eq-eqb i i refl) refl in
                    let both = split i in
                    omega (arith, more, one, both);
                apart =
                    let few = may.once i in
                    let one : times i (i ∷ []) ≡ 1 = rw (eq-eqb i i refl) refl in
                    let both = split i in
                    omega (arith, few, one, both);
                front = (refl, record { first = its.first; buffer = b; was = its.was; laid = refl; same = its.same; bytes = refl });
              };
          index = refl;
          may =
              record {
                seats = refl;
                held = λ j. let more = may.held j in let both = split j in omega (arith, more, both);
                once = λ j. let few = may.once j in let both = split j in let now = gone j in omega (arith, few, both, now);
                given = may.given.1;
                out_given = given;
                lifted =
                    λ j.
                    let was = may.lifted j in
                    let now = less j in
                    omega arith;
              };
          out_less = less;
          are =
              record {
                indices = λ j. sym (split j);
                laid =
                    λ j x has.
                    elim (contained_cases (i, slot) (j, full_slot x) xs has) [
                      | inl first ↦
                          let index : i ≡ j = ap (λ (p : ℕ × SlotStanding B). p.0) first in
                          let bytes = ap contents (same x (ap (λ (p : ℕ × SlotStanding B). p.1) first)) in
                          inr (0, omega arith, ap (λ (k : ℕ). (k, contents b)) index ∙ ap (λ (w : List ℕ). (j, w)) bytes)
                      | inr there ↦ inl there
                    ];
                lifted =
                    λ o has.
                    elim (came o has) [
                      | inl still ↦ inl still
                      | inr it ↦ inr (0, omega arith, ap (λ (p : ℕ × B). (p.0, contents p.1)) it)
                    ];
              };
        }

    left_given : (out left : List (ℕ × B)) → IsPermutation out ((i, b) ∷ left) → AllOutGiven IsSame buffers out
        → IsAsGiven IsSame buffers i b × AllOutGiven IsSame buffers left
    left_given out left perm given =
        let back = IsPermutation-sym out ((i, b) ∷ left) perm in (
          given (i, b) (Contains-permutation ((i, b) ∷ left) out (i, b) back (0, omega arith, refl)),
          λ o has. given o (Contains-permutation ((i, b) ∷ left) out o back (contains_behind (i, b) o left has)),
        )

  -- the first slot goes home
  pub leaves : (contents : B → List ℕ) (IsSame : B → B → Type 0) (buffers : List B) (me : Me (SlotStanding B) Known) (i : ℕ)
      (out : List (ℕ × B)) (later : List (ℕ × SlotStanding B)) (left : List (ℕ × B)) → MayLeave IsSame buffers me out
      → IsLaidBack i me.1 out later left → Leaves contents IsSame buffers me i out later left
  leaves contents IsSame buffers me i out later left may l =
      subst (λ (ys : List (ℕ × SlotStanding B)). Leaves contents IsSame buffers me i out ys left) (sym l.laid)
      (elim l.was [
        | inl was ↦
            let full : SlotStanding B = record { buffer = Some l.buffer } in
            let mine = subst (λ (ys : List (ℕ × SlotStanding B)). MayLeave IsSame buffers (me.0, ys) out) was.0 may in
            let there = leaves_with contents IsSame buffers me.0 i l.buffer l.others full out left mine (mine.given.0 l.buffer refl)
            (subst (λ (o : List (ℕ × B)). AllOutGiven IsSame buffers o) (sym was.1) mine.out_given)
            (λ j. let same : times j (indices_of left) ≡ times j (indices_of out) = ap (λ (o : List (ℕ × B)). times j (indices_of o)) was.1 in omega arith)
            (λ x same. some_same l.buffer x (ap (λ (t : SlotStanding B). t.buffer) same))
            (λ o has. inl (subst (λ (os : List (ℕ × B)). Contains os o) (sym was.1) has)) in
            subst (λ (ys : List (ℕ × SlotStanding B)). Leaves contents IsSame buffers (me.0, ys) i out ((i, full) ∷ l.others) left) (sym was.0) there
        | inr was ↦
            let full : SlotStanding B = record { buffer = Some l.buffer } in
            let empty : SlotStanding B = record { buffer = None } in
            let mine = subst (λ (ys : List (ℕ × SlotStanding B)). MayLeave IsSame buffers (me.0, ys) out) was.0 may in
            let both = left_given contents IsSame buffers me.0 i l.buffer l.others out left was.1 mine.out_given in
            let there = leaves_with contents IsSame buffers me.0 i l.buffer l.others empty out left mine both.0 both.1
            (λ j. let same = times-permuted j out ((i, l.buffer) ∷ left) was.1 in omega arith)
            (λ x same. absurd (none_some x (ap (λ (t : SlotStanding B). t.buffer) same)))
            (λ o has.
            elim (contained_cases (i, l.buffer) o left (Contains-permutation out ((i, l.buffer) ∷ left) o was.1 has)) [
              | inl it ↦ inr it
              | inr still ↦ inl still
            ]) in
            subst (λ (ys : List (ℕ × SlotStanding B)). Leaves contents IsSame buffers (me.0, ys) i out ((i, full) ∷ l.others) left) (sym was.0) there
      ])
    where
      some_same : (a b : B) → Some a ≡ Some b → a ≡ b
      some_same a b e = cc

      none_some : (a : B) → None ≡ Some a → ⊥
      none_some a e = cc

module _ {B : Type 0} where
  -- a slot is emptied, and has its buffer again
  pub laid_back : (i : ℕ) (slots mid later : List (ℕ × SlotStanding B)) (result : SlotStanding B) (b : B) (out left : List (ℕ × B)) → slots ≡ (i, result) ∷ rest slots
      → mid ≡ (i, record { buffer = None }) ∷ rest slots → later ≡ (i, record { buffer = Some b }) ∷ rest mid
      → ((result.buffer ≡ Some b) × (left ≡ out)) ⊎ ((result.buffer ≡ None) × IsPermutation out ((i, b) ∷ left)) → IsLaidBack i slots out later left
  laid_back i slots mid later result b out left at_first emptied filled was =
      record {
        buffer = b;
        others = rest slots;
        laid = filled ∙ ap (λ (ys : List (ℕ × SlotStanding B)). (i, record { buffer = Some b }) ∷ rest ys) emptied;
        was =
            elim was [
              | inl full ↦ inl (at_first ∙ ap (λ (o : Option B). (i, record { buffer = o }) ∷ rest slots) full.0, full.1)
              | inr empty ↦ inr (at_first ∙ ap (λ (o : Option B). (i, record { buffer = o }) ∷ rest slots) empty.0, empty.1)
            ];
      }

  -- the seat after its first slot has gone home
  pub record GoneOn (contents : B → List ℕ) (IsSame : B → B → Type 0) (buffers : List B) (me : Me (SlotStanding B) Known) (i : ℕ) (out : List (ℕ × B))
      (next : Me (SlotStanding B) Known) (left : List (ℕ × B)) : Type 0 where
    pub may : MayLeave IsSame buffers next left
    pub others : (j : ℕ) → times j (i ∷ []) + times j (indices_of next.1) ≡ times j (indices_of me.1)
    pub went : WentHome contents me out next left
    pub less : (j : ℕ) → times j (indices_of left) + times_lifted j me.1 ≡ times j (indices_of out) + times_lifted j next.1

  pub goes_on : (contents : B → List ℕ) (IsSame : B → B → Type 0) (buffers : List B) (me laid next : Me (SlotStanding B) Known) (i : ℕ)
      (out left : List (ℕ × B)) → Leaves contents IsSame buffers me i out laid.1 left → laid.0 ≡ me.0
      → next ≡ (at_home ((front_index laid.1, front_bytes contents laid.1) ∷ []) laid.0, rest laid.1) → GoneOn contents IsSame buffers me i out next left
  goes_on contents IsSame buffers me laid next i out left l view gone =
      let front : List (ℕ × List ℕ) = (front_index laid.1, front_bytes contents laid.1) ∷ [] in
      let here : GoneOn contents IsSame buffers me i out (at_home front me.0, rest laid.1) left =
      record {
        may = l.may;
        others = λ j. subst (λ n. times j (n ∷ []) + times j (indices_of (rest laid.1)) ≡ times j (indices_of me.1)) l.index (l.are.indices j);
        went = record { gone = front; view = refl; are = l.are };
        less = l.out_less;
      } in
      let there : (at_home front me.0, rest laid.1) ≡ next = ap (λ (v : Known). (at_home front v, rest laid.1)) (sym view) ∙ sym gone in
      subst (λ (n : Me (SlotStanding B) Known). GoneOn contents IsSame buffers me i out n left) there here

  no_slots : (slots : List (ℕ × SlotStanding B)) → ((i : ℕ) → times i (indices_of slots) ≡ 0) → slots ≡ []
  no_slots [] none = refl
  no_slots (x ∷ xs) none =
      let all = none x.0 in
      let both = times-append x.0 (x.0 ∷ []) (indices_of xs) in
      let one : times x.0 (x.0 ∷ []) ≡ 1 = rw (eq-eqb x.0 x.0 refl) refl in
      absurd (omega (arith, all, both, one))

  -- of the slots that are noted those of the indices from k on are left
  pub record AreLeft (held : List Bool) (k : ℕ) (slots : List (ℕ × SlotStanding B)) : Type 0 where
    pub gone : (i : ℕ) → i < k → times i (indices_of slots) ≡ 0
    pub still : (i : ℕ) → k ≤ i → times i (indices_of slots) ≡ noted held i

  pub left_all : (held : List Bool) (slots : List (ℕ × SlotStanding B)) → AreNoted held slots → AreLeft held 0 slots
  left_all held slots are = record { gone = λ i low. absurd (omega (arith, low)); still = λ i high. are i }

  -- the index k is noted, as was read
  pub left_there : (held : List Bool) (k : ℕ) (slots : List (ℕ × SlotStanding B)) (b : Bool) → AreLeft held k slots → k < length held
      → b ≡ slice_index_or held k b → b ≡ true → 0 < times k (indices_of slots)
  left_there held k slots b left low read held_so =
      let one : noted held k ≡ 1 = noted_read held k b low read ∙ ap (λ (t : Bool). if t then 1 else 0) held_so in
      let is = left.still k (omega arith) in
      omega (arith, one, is)

  -- the index k is not noted
  pub left_same : (held : List Bool) (k : ℕ) (slots : List (ℕ × SlotStanding B)) → AreLeft held k slots → noted held k ≡ 0 → AreLeft held (k + 1) slots
  left_same held k slots left none =
      record {
        gone =
            λ i low.
            elim (cases_eq i k) [
              | inl same ↦ rw same (left.still k (omega arith) ∙ none)
              | inr other ↦ left.gone i (omega (arith, low, other))
            ];
        still = λ i high. left.still i (omega (arith, high));
      }

  -- its slot has gone home
  pub left_less : (held : List Bool) (k : ℕ) (slots later : List (ℕ × SlotStanding B)) → AreLeft held k slots
      → ((i : ℕ) → times i (k ∷ []) + times i (indices_of later) ≡ times i (indices_of slots)) → AreLeft held (k + 1) later
  left_less held k slots later left less =
      record {
        gone =
            λ i low.
            elim (cases_eq i k) [
              | inl same ↦
                  let one : times k (k ∷ []) ≡ 1 = rw (eq-eqb k k refl) refl in
                  let now = less k in
                  let was = left.still k (omega arith) in
                  let once = noted_once held k in
                  rw same (omega (arith, one, now, was, once))
              | inr other ↦
                  let now = less i in
                  let was = left.gone i (omega (arith, low, other)) in
                  omega (arith, now, was)
            ];
        still =
            λ i high.
            let away : times i (k ∷ []) ≡ 0 = rw (ne_eqb k i (λ e. let low : k < i = omega (arith, high) in absurd (omega (arith, low, e)))) refl in
            let now = less i in
            let was = left.still i (omega (arith, high)) in
            omega (arith, away, now, was);
      }

  -- no index is left
  pub none_left : (held : List Bool) (k : ℕ) (slots : List (ℕ × SlotStanding B)) → AreLeft held k slots → length held ≤ k → slots ≡ []
  none_left held k slots left all =
      no_slots slots (λ i.
      elim (cases_lt i k) [
        | inl low ↦ left.gone i low
        | inr high ↦
            let is = left.still i (omega (arith, high)) in
            elim (cases_eq (noted held i) 0) [
              | inl none ↦ is ∙ none
              | inr some ↦ let low = noted_low held i (omega (arith, some)) in absurd (omega (arith, low, all, high))
            ]
      ])
