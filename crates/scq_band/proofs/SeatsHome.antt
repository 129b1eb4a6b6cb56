-- What a seat keeps is what it needs to go home, and what contracts see of it is in the view that it leaves.
use Rattle.std.proofs.Common.{◌≡◌, ℕ, zero, suc, ◌+◌, ◌<◌, ◌≤◌, Bool, true, false, List, [], ◌∷◌, ◌++◌, map, length, refl, sym, ◌∙◌, ap, subst, inl, inr, arith, eq-eqb, ne_eqb}
use Rattle.std.specs.Prelude.{Option, Some, None, is_none, if◌then◌else◌, slice_get, min}
use Rattle.std.specs.List.{Contains}
use Rattle.std.proofs.lemmas.Bool.{cases_eq, cases_Bool}
use Rattle.atomic_table.specs.Seated.{TableId}
use Rattle.atomic_table.specs.Table.{Me}
use Rattle.scq_law.specs.Exports.{times}
use Rattle.scq_band.specs.Exports.{Seen, raised_by, larger, Member, lower_gate, both_of, my, buffer_in, hand_of, standing_from, AllGiven}
use Rattle.scq_band.specs.Exports.{IsKept, indices_of, lifted_of, full_slot, times_lifted, WentHome, OutOrHome, AllOutGiven, MayLeave, IsMemberOf}
use Rattle.scq_band.specs.Exports.{AreHoles, AreMembersOf, HeadsKnown, GatesKnown, HasAll}
use Rattle.scq_band.specs.declared.numbers.Numbers.{Numbers}
use Rattle.scq_band.specs.declared.rule.Key.{Key}
use Rattle.scq_band.specs.Slots.{SlotStanding}
use Rattle.scq_band.specs.Known.{Known}
use Rattle.scq_band.specs.Standing.{Standing}
use Rattle.scq_band.proofs.Exchanging.{kept_once}
use Rattle.scq_band.proofs.GoingHome.{contains_behind, contained_cases, contains_none}
use Rattle.scq_band.proofs.Views.{joined_length}

-- an index that stands in a list has something beside it there
contains_times : {A : Type 0} (xs : List (ℕ × A)) (i : ℕ) → 0 < times i (indices_of xs) → (w : A) × Contains xs (i, w)
contains_times [] i some = absurd (omega arith)
contains_times {A} (x ∷ xs) i some =
    elim (cases_eq x.0 i) [
      | inl same ↦ (x.1, (0, omega arith, ap (λ (j : ℕ). (j, x.1)) same))
      | inr other ↦
          let seen = rw (ne_eqb x.0 i other) at some in
          let behind = contains_times xs i (omega (arith, seen)) in
          (behind.0, contains_behind x (i, behind.0) xs behind.1)
    ]

-- an image is that of something in the list
contained_image : {A C : Type 0} (f : A → C) (xs : List A) (y : C) → Contains (map f xs) y → (x : A) × (f x ≡ y)
contained_image f [] y has = absurd (contains_none y has)
contained_image f (x ∷ xs) y has =
    elim (contained_cases (f x) y (map f xs) has) [
      | inl same ↦ (x, same)
      | inr there ↦ contained_image f xs y there
    ]

-- a number under a test, where both sides are written otherwise
same_if : (b : Bool) (n l m k : ℕ) → l ≡ (if b then n else 0) → m ≡ l → k ≡ n → m ≡ (if b then k else 0)
same_if true n l m k e left right = left ∙ e ∙ sym right
same_if false n l m k e left right = left ∙ e

module _ {B : Type 0} where
  -- the slot in which the buffer of an index lies
  slot_of_buffer : (slots : List (ℕ × SlotStanding B)) (i : ℕ) (b : B) → buffer_in slots i ≡ Some b → Contains slots (i, full_slot b)
  slot_of_buffer [] i b is = absurd (cc)
  slot_of_buffer (x ∷ xs) i b is =
      elim (cases_eq x.0 i) [
        | inl same ↦
            let here : x.1.buffer ≡ Some b = rw (eq-eqb x.0 i same) at is in
            (0, omega arith, ap (λ (j : ℕ). (j, x.1)) same ∙ ap (λ (o : Option B). (i, record { buffer = o })) here)
        | inr other ↦
            let there : buffer_in xs i ≡ Some b = rw (ne_eqb x.0 i other) at is in
            contains_behind x (i, full_slot b) xs (slot_of_buffer xs i b there)
      ]

  -- a buffer that contracts see in a hand lies in a slot
  slot_of_hand : (slots : List (ℕ × SlotStanding B)) (hand : List ℕ) (i : ℕ) (b : B) → Contains (hand_of slots hand) (i, Some b) → Contains slots (i, full_slot b)
  slot_of_hand slots hand i b has =
      let image = contained_image (λ (j : ℕ). (j, buffer_in slots j)) hand (i, Some b) has in
      let index : image.0 ≡ i = ap (λ (p : ℕ × Option B). p.0) image.1 in
      let buffer : buffer_in slots image.0 ≡ Some b = ap (λ (p : ℕ × Option B). p.1) image.1 in
      slot_of_buffer slots i b (ap (buffer_in slots) (sym index) ∙ buffer)

  -- the indices of a hand that contracts see
  indices-hand_of : (slots : List (ℕ × SlotStanding B)) (hand : List ℕ) → indices_of (hand_of slots hand) ≡ hand
  indices-hand_of slots [] = refl
  indices-hand_of slots (i ∷ hand) = ap (λ (l : List ℕ). i ∷ l) (indices-hand_of slots hand)

  -- how often an index of a hand is lifted
  lifted-hand_of : (slots : List (ℕ × SlotStanding B)) (hand : List ℕ) (i : ℕ)
      → times i (lifted_of (hand_of slots hand)) ≡ (if is_none (buffer_in slots i) then times i hand else 0)
  lifted-hand_of slots [] i = elim (cases_Bool (is_none (buffer_in slots i))) [ inl t ↦ rw t refl | inr f ↦ rw f refl ]
  lifted-hand_of slots (j ∷ hand) i =
      let rest = lifted-hand_of slots hand i in
      elim (cases_eq j i) [
        | inl same ↦
            elim (cases_Bool (is_none (buffer_in slots i))) [
              | inl t ↦ let now = rw t at rest in rw (same, t) (omega (arith, now))
              | inr f ↦ let now = rw f at rest in rw (same, f) now
            ]
        | inr other ↦
            elim (cases_Bool (is_none (buffer_in slots j))) [
              | inl t ↦
                  rw (t, ne_eqb j i other) (same_if (is_none (buffer_in slots i)) (times i hand) (times i (lifted_of (hand_of slots hand)))
                  (0 + times i (lifted_of (hand_of slots hand))) (0 + times i hand) rest (omega arith) (omega arith))
              | inr f ↦
                  rw (f, ne_eqb j i other) (same_if (is_none (buffer_in slots i)) (times i hand) (times i (lifted_of (hand_of slots hand)))
                  (times i (lifted_of (hand_of slots hand))) (0 + times i hand) rest refl (omega arith))
            ]
      ]

  lifted_few : (slots : List (ℕ × SlotStanding B)) (i : ℕ) → times_lifted i slots ≤ times i (indices_of slots)
  lifted_few [] i = omega arith
  lifted_few (x ∷ xs) i =
      let rest = lifted_few xs i in
      elim (cases_Bool (is_none x.1.buffer)) [ inl t ↦ rw t (omega (arith, rest)) | inr f ↦ rw f (omega (arith, rest)) ]

  -- how often an index is lifted, where each stands once
  lifted_slots : (slots : List (ℕ × SlotStanding B)) (i : ℕ) → times i (indices_of slots) ≤ 1
      → times_lifted i slots ≡ (if is_none (buffer_in slots i) then times i (indices_of slots) else 0)
  lifted_slots [] i once = refl
  lifted_slots (x ∷ xs) i once =
      elim (cases_eq x.0 i) [
        | inl same ↦
            let few = lifted_few xs i in
            let here : times i (indices_of (x ∷ xs)) ≡ 1 + times i (indices_of xs) = rw (eq-eqb x.0 i same) refl in
            elim (cases_Bool (is_none x.1.buffer)) [
              | inl t ↦ rw (eq-eqb x.0 i same, t) (omega (arith, few, here, once))
              | inr f ↦ rw (eq-eqb x.0 i same, f) (omega (arith, few, here, once))
            ]
        | inr other ↦
            let there : times i (indices_of (x ∷ xs)) ≡ times i (indices_of xs) = rw (ne_eqb x.0 i other) (omega arith) in
            let rest = lifted_slots xs i (omega (arith, there, once)) in
            elim (cases_Bool (is_none x.1.buffer)) [
              | inl t ↦
                  rw (ne_eqb x.0 i other, t) (same_if (is_none (buffer_in xs i)) (times i (indices_of xs)) (times_lifted i xs) (0 + times_lifted i xs)
                  (0 + times i (indices_of xs)) rest (omega arith) (omega arith))
              | inr f ↦
                  rw (ne_eqb x.0 i other, f) (same_if (is_none (buffer_in xs i)) (times i (indices_of xs)) (times_lifted i xs) (0 + times_lifted i xs)
                  (0 + times i (indices_of xs)) rest (omega arith) (omega arith))
            ]
      ]

  module _ (IsSame : B → B → Type 0) (key : Key B) (me : Me (SlotStanding B) Known) (notes : List Bool) (known : List Numbers) (spent : Option ℕ)
      (kept : IsKept IsSame key me notes known spent) where
    pub lifted_as : (i : ℕ) → times i (lifted_of (hand_of me.1 (my me.0).part.hand)) ≡ times_lifted i me.1
    lifted_as i =
        lifted-hand_of me.1 (my me.0).part.hand i ∙ ap (λ (n : ℕ). if is_none (buffer_in me.1 i) then n else 0) (sym (kept.same i))
        ∙ sym (lifted_slots me.1 i (kept_once IsSame key me notes known spent kept i))

    -- where each buffer of its hand is lifted its slots are holes
    pub are_holes : ((i : ℕ) → times i (lifted_of (hand_of me.1 (my me.0).part.hand)) ≡ times i (indices_of (hand_of me.1 (my me.0).part.hand)))
        → AreHoles me.1
    are_holes lifted i =
        sym (lifted_as i) ∙ lifted i ∙ ap (times i) (indices-hand_of me.1 (my me.0).part.hand) ∙ sym (kept.same i)

    -- the seat may go home
    pub may_leave : (buffers : List B) (out : List (ℕ × B)) → buffers ≡ key.given.value.items → AllOutGiven IsSame buffers out
        → ((i : ℕ) → times i (lifted_of (hand_of me.1 (my me.0).part.hand)) ≤ times i (indices_of out))
        → MayLeave IsSame buffers me out
    may_leave buffers out are given lifted =
        record {
          seats = kept.alone.seats;
          held = λ i. let same = kept.same i in omega (arith, same);
          once =
              λ i.
              let one = kept_once IsSame key me notes known spent kept i in
              let none : times i (indices_of (my me.0).brought) ≡ 0 = ap (λ (h : List (ℕ × List ℕ)). times i (indices_of h)) kept.alone.out in
              omega (arith, one, none);
          given = subst (λ (bs : List B). AllGiven IsSame bs me.1) (sym are) kept.given;
          out_given = given;
          lifted = λ i. let same = lifted_as i in let few = lifted i in omega (arith, same, few);
        }

    module _ (contents : B → List ℕ) (out left : List (ℕ × B)) (next : Me (SlotStanding B) Known) (went : WentHome contents me out next left) where
      -- the view that it leaves is of one seat, which has brought home just these
      pub leaves_alone : next.0.seats ≡ my next.0 ∷ []
      leaves_alone = ap (λ (v : Known). v.seats) went.view ∙ ap (λ (v : Known). my v ∷ []) (sym went.view)

      has_brought : (my next.0).brought ≡ went.gone
      has_brought =
          ap (λ (v : Known). (my v).brought) went.view ∙ ap (λ (h : List (ℕ × List ℕ)). h ++ went.gone) kept.alone.out

      -- what it has become
      pub is_member : (seen : Seen) (table : TableId) → next.1 ≡ [] → IsMemberOf contents (standing_from seen table key me) (my next.0)
      is_member seen table none =
          record {
            number = ap (λ (v : Known). (my v).number) went.view;
            calls = ap (λ (v : Known). (my v).part.calls) went.view;
            hand = ap (λ (v : Known). (my v).part.hand) went.view ∙ sym (indices-hand_of me.1 (my me.0).part.hand);
            spent = ap (λ (v : Known). (my v).part.spent) went.view;
            retired = ap (λ (v : Known). (my v).retired) went.view;
            idle = ap (λ (v : Known). (my v).part.phase) went.view ∙ kept.idle;
            brought =
                λ i some.
                let part : times i (my next.0).part.hand ≡ times i (my me.0).part.hand = ap (λ (v : Known). times i (my v).part.hand) went.view in
                let hand = kept.same i in
                let all = went.are.indices i in
                let no_more : times i (indices_of next.1) ≡ 0 = ap (λ (ys : List (ℕ × SlotStanding B)). times i (indices_of ys)) none in
                let there = contains_times went.gone i (omega (arith, part, hand, all, no_more, some)) in
                (there.0, subst (λ (h : List (ℕ × List ℕ)). Contains h (i, there.0)) (sym has_brought) there.1);
            laid =
                λ i b has.
                elim (went.are.laid i b (slot_of_hand me.1 (my me.0).part.hand i b has)) [
                  | inl still ↦ absurd (contains_none (i, full_slot b) (subst (λ (ys : List (ℕ × SlotStanding B)). Contains ys (i, full_slot b)) none still))
                  | inr gone ↦ subst (λ (h : List (ℕ × List ℕ)). Contains h (i, contents b)) (sym has_brought) gone
                ];
          }

      -- what was out is out still, or at home
      pub out_or_home : OutOrHome contents out left (my next.0 ∷ [])
      out_or_home o has =
          elim (went.are.lifted o has) [
            | inl still ↦ inl still
            | inr gone ↦
                inr record {
                  at = 0;
                  member = my next.0;
                  here = refl;
                  brought = subst (λ (h : List (ℕ × List ℕ)). Contains h (o.0, contents o.1)) (sym has_brought) gone;
                }
          ]

-- a number of the first list, and one of the second, are no larger than the joined one
joined_first : (xs ys : List Numbers) (r : ℕ) (x : Numbers) → slice_get xs r ≡ Some x
    → (y : Numbers) × (slice_get (raised_by xs ys) r ≡ Some y) × (x.head ≤ y.head)
joined_first [] ys r x e = absurd (cc)
joined_first (a ∷ xs) [] r x e = (x, e, omega arith)
joined_first (a ∷ xs) (b ∷ ys) zero x e =
    let same : a ≡ x = cc in
    let head : a.head ≡ x.head = ap (λ (n : Numbers). n.head) same in
    (larger a b, refl, omega (arith, head))
joined_first (a ∷ xs) (b ∷ ys) (suc r) x e = joined_first xs ys r x e

joined_second : (xs ys : List Numbers) (r : ℕ) (x : Numbers) → length ys ≤ length xs → slice_get ys r ≡ Some x
    → (y : Numbers) × (slice_get (raised_by xs ys) r ≡ Some y) × (x.head ≤ y.head)
joined_second xs [] r x fits e = absurd (cc)
joined_second [] (b ∷ ys) r x fits e = absurd (omega arith)
joined_second (a ∷ xs) (b ∷ ys) zero x fits e =
    let same : b ≡ x = cc in
    let head : b.head ≡ x.head = ap (λ (n : Numbers). n.head) same in
    (larger a b, refl, omega (arith, head))
joined_second (a ∷ xs) (b ∷ ys) (suc r) x fits e = joined_second xs ys r x (omega arith) e

-- the lower of two readings is no higher than each
lower_first : (x y : Option ℕ) (k : ℕ) → x ≡ Some k → (j : ℕ) × (lower_gate x y ≡ Some j) × (j ≤ k)
lower_first x None k is = (k, is, omega arith)
lower_first None (Some b) k is = absurd (cc)
lower_first (Some a) (Some b) k is = let same : a ≡ k = cc in (min a b, refl, omega (arith, same))

lower_second : (x y : Option ℕ) (k : ℕ) → y ≡ Some k → (j : ℕ) × (lower_gate x y ≡ Some j) × (j ≤ k)
lower_second x None k is = absurd (cc)
lower_second None (Some b) k is = (k, is, omega arith)
lower_second (Some a) (Some b) k is = let same : b ≡ k = cc in (min a b, refl, omega (arith, same))

module _ {B : Type 0} where
  gates_joined : (ss : List (Standing B)) (x y : Option ℕ) → GatesKnown ss x → GatesKnown ss (lower_gate x y)
  gates_joined [] x y known = tt
  gates_joined (s ∷ ss) x y known = (
    λ n is.
        let one = known.0 n is in
        let both = lower_first x y one.0 one.1 in
        (both.0, both.1, omega (arith, one.2, both.2)),
    gates_joined ss x y known.1,
  )

  heads_joined : (ss : List (Standing B)) (xs ys : List Numbers) → HeadsKnown ss xs → HeadsKnown ss (raised_by xs ys)
  heads_joined [] xs ys known = tt
  heads_joined (s ∷ ss) xs ys known = (
    λ r x e.
        let one = known.0 r x e in
        let both = joined_first xs ys r one.0 one.1 in
        let up = one.2 in
        let more = both.2 in
        (both.0, both.1, omega (arith, up, more)),
    heads_joined ss xs ys known.1,
  )

  -- the first seat alone
  pub has_one : (contents : B → List ℕ) (rings : ℕ) (s : Standing B) (v : Known) → v.seats ≡ my v ∷ [] → IsMemberOf contents s (my v)
      → v.numbers ≡ s.numbers → length s.numbers ≡ rings → v.gate ≡ s.gate → HasAll contents rings (s ∷ []) v
  has_one contents rings s v alone member numbers count gate =
      record {
        members = subst (λ (xs : List Member). AreMembersOf contents (s ∷ []) xs) (sym alone) (member, tt);
        heads = (λ r x e. (x, ap (λ (ns : List Numbers). slice_get ns r) numbers ∙ e, omega arith), tt);
        rings_known = ap length numbers ∙ count;
        gates = (λ n is. (n, gate ∙ is, omega arith), tt);
      }

  -- one more seat
  pub has_more : (contents : B → List ℕ) (rings : ℕ) (s : Standing B) (ss : List (Standing B)) (v w : Known) → HasAll contents rings ss v
      → w.seats ≡ my w ∷ [] → IsMemberOf contents s (my w) → w.numbers ≡ s.numbers → length s.numbers ≡ rings → w.gate ≡ s.gate
      → HasAll contents rings (s ∷ ss) (both_of v w)
  has_more contents rings s ss v w all alone member numbers count gate =
      let known = all.rings_known in
      let mine : length w.numbers ≡ length s.numbers = ap length numbers in
      record {
        members = subst (λ (xs : List Member). AreMembersOf contents (s ∷ ss) (xs ++ v.seats)) (sym alone) (member, all.members);
        heads = (
          λ r x e.
              joined_second v.numbers w.numbers r x (omega (arith, known, mine, count))
              (ap (λ (ns : List Numbers). slice_get ns r) numbers ∙ e),
          heads_joined ss v.numbers w.numbers all.heads,
        );
        rings_known = joined_length v.numbers w.numbers ∙ known;
        gates = (λ n is. lower_second v.gate w.gate n (gate ∙ is), gates_joined ss v.gate w.gate all.gates);
      }
