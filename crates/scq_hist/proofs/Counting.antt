-- Counts, and that a count is at most another exactly where there is a one-to-one map. Plan: a map sends a list of different
-- members into the other list, and each that is sent takes one position away; back, members at one position of the two lists are partners
use Rattle.std.proofs.Common.{◌≡◌, ℕ, suc, ◌+◌, ◌-◌, ◌≤◌, ◌⊎◌, inl, inr, List, [], ◌∷◌, length, refl, sym, ap, ◌∙◌, subst, arith}
use Rattle.scq_hist.specs.Exports.{AtMostAsMany, StandsIn, Distinct, IsCount}

pub count_none : {X : Type 0} (A : X → Type 0) → ((x : X) → A x → ⊥) → IsCount A 0
count_none {X} A empty = record { members = []; many = refl; sound = λ x h. absurd h; complete = λ x h. absurd (empty x h); distinct = tt }

-- one member more
pub count_more : {X : Type 0} (A B : X → Type 0) (x : X) (c : ℕ) → IsCount A c → (A x → ⊥) → B x → ((y : X) → A y → B y) → ((y : X) → B y → (x ≡ y) ⊎ A y)
    → IsCount B (c + 1)
count_more {X} A B x c n new here old split = record {
  members = x ∷ n.members;
  many = (let m = n.many in omega arith);
  sound = λ y h. elim h [ inl e ↦ subst B e here | inr m ↦ old y (n.sound y m) ];
  complete = λ y b. elim (split y b) [ inl e ↦ inl e | inr a ↦ inr (n.complete y a) ];
  distinct = (λ m. new (n.sound x m), n.distinct);
}

pub count_same : {X : Type 0} (A B : X → Type 0) (c : ℕ) → IsCount A c → ((y : X) → A y → B y) → ((y : X) → B y → A y) → IsCount B c
count_same {X} A B c n to from = record {
  members = n.members;
  many = n.many;
  sound = λ y h. to y (n.sound y h);
  complete = λ y b. n.complete y (from y b);
  distinct = n.distinct;
}

-- a list without one of its members, which stands in it once
pub record Removed {Y : Type 0} (ys : List Y) (y : Y) : Type 0 where
  pub others : List Y
  pub many : length ys ≡ suc (length others)
  pub keeps : (z : Y) → StandsIn ys z → (y ≡ z) ⊎ StandsIn others z

removed : {Y : Type 0} (ys : List Y) (y : Y) → StandsIn ys y → Removed ys y
removed {Y} [] y h = absurd h
removed {Y} (z ∷ zs) y (inl e) = record {
  others = zs;
  many = refl;
  keeps = λ x h. elim h [ inl e2 ↦ inl (sym e ∙ e2) | inr m ↦ inr m ];
}
removed {Y} (z ∷ zs) y (inr h) =
    let w = removed zs y h in
    record {
      others = z ∷ w.others;
      many = ap suc w.many;
      keeps = λ x k. elim k [ inl e ↦ inr (inl e) | inr m ↦ elim (w.keeps x m) [ inl e ↦ inl e | inr n ↦ inr (inr n) ] ];
    }

-- different members with different partners in a list are at most as many as that list has
pigeons : {X Y : Type 0} (A : X → Type 0) (partner : (x : X) → A x → Y) (one : (x y : X) (h : A x) (k : A y) → partner x h ≡ partner y k → x ≡ y)
    → (xs : List X) (ys : List Y) → Distinct xs → ((x : X) → StandsIn xs x → (h : A x) × StandsIn ys (partner x h)) → length xs ≤ length ys
pigeons {X} {Y} A partner one [] ys d each = omega arith
pigeons {X} {Y} A partner one (x ∷ xs) ys d each =
    let first : (h : A x) × StandsIn ys (partner x h) = each x (inl refl) in
    let w = removed ys (partner x first.0) first.1 in
    let rest : length xs ≤ length w.others = pigeons A partner one xs w.others d.1 (λ z m.
    let mine = each z (inr m) in (
      mine.0,
      elim (w.keeps (partner z mine.0) mine.1) [
        | inl e ↦ absurd (d.0 (subst (λ v. StandsIn xs v) (sym (one x z first.0 mine.0 e)) m))
        | inr k ↦ k
      ],
    )) in
    let many = w.many in omega arith

pub le_from_map : {X Y : Type 0} (A : X → Type 0) (B : Y → Type 0) (a b : ℕ) → IsCount A a → IsCount B b → AtMostAsMany A B → a ≤ b
le_from_map {X} {Y} A B a b m n f =
    let le = pigeons A f.partner f.one_to_one m.members n.members m.distinct (λ x k. let h = m.sound x k in (h, n.complete (f.partner x h) (f.into x h))) in
    let x = m.many in let y = n.many in omega arith

-- the member of ys that stands where x stands in xs
opposite : {X Y : Type 0} (xs : List X) (ys : List Y) → length xs ≤ length ys → (x : X) → StandsIn xs x → Y
opposite {X} {Y} [] ys le x h = absurd h
opposite {X} {Y} (z ∷ zs) [] le x h = absurd (omega arith)
opposite {X} {Y} (z ∷ zs) (y ∷ ys) le x (inl e) = y
opposite {X} {Y} (z ∷ zs) (y ∷ ys) le x (inr h) = opposite zs ys (omega arith) x h

opposite_in : {X Y : Type 0} (xs : List X) (ys : List Y) (le : length xs ≤ length ys) (x : X) (h : StandsIn xs x) → StandsIn ys (opposite xs ys le x h)
unfolding opposite
opposite_in {X} {Y} [] ys le x h = absurd h
opposite_in {X} {Y} (z ∷ zs) [] le x h = absurd (omega arith)
opposite_in {X} {Y} (z ∷ zs) (y ∷ ys) le x (inl e) = inl refl
opposite_in {X} {Y} (z ∷ zs) (y ∷ ys) le x (inr h) = inr (opposite_in zs ys (omega arith) x h)

opposite_one : {X Y : Type 0} (xs : List X) (ys : List Y) (le : length xs ≤ length ys) → Distinct ys → (x z : X) (h : StandsIn xs x) (k : StandsIn xs z)
    → opposite xs ys le x h ≡ opposite xs ys le z k → x ≡ z
unfolding opposite
opposite_one {X} {Y} [] ys le d x z h k e = absurd h
opposite_one {X} {Y} (w ∷ ws) [] le d x z h k e = absurd (omega arith)
opposite_one {X} {Y} (w ∷ ws) (y ∷ ys) le d x z (inl h) (inl k) e = sym h ∙ k
opposite_one {X} {Y} (w ∷ ws) (y ∷ ys) le d x z (inl h) (inr k) e = absurd (d.0 (subst (λ v. StandsIn ys v) (sym e) (opposite_in ws ys (omega arith) z k)))
opposite_one {X} {Y} (w ∷ ws) (y ∷ ys) le d x z (inr h) (inl k) e = absurd (d.0 (subst (λ v. StandsIn ys v) e (opposite_in ws ys (omega arith) x h)))
opposite_one {X} {Y} (w ∷ ws) (y ∷ ys) le d x z (inr h) (inr k) e = opposite_one ws ys (omega arith) d.1 x z h k e

pub map_from_le : {X Y : Type 0} (A : X → Type 0) (B : Y → Type 0) (a b : ℕ) → IsCount A a → IsCount B b → a ≤ b → AtMostAsMany A B
map_from_le {X} {Y} A B a b m n le =
    let x = m.many in let y = n.many in
    let short : length m.members ≤ length n.members = omega arith in
    record {
      partner = λ x h. opposite m.members n.members short x (m.complete x h);
      into = λ x h. n.sound _ (opposite_in m.members n.members short x (m.complete x h));
      one_to_one = λ x z h k e. opposite_one m.members n.members short n.distinct x z (m.complete x h) (m.complete z k) e;
    }

pub count_unique : {X : Type 0} (A : X → Type 0) (a b : ℕ) → IsCount A a → IsCount A b → a ≡ b
count_unique {X} A a b m n =
    let same : AtMostAsMany A A = record { partner = λ x h. x; into = λ x h. h; one_to_one = λ x y h k e. e } in
    let l = le_from_map A A a b m n same in let r = le_from_map A A b a n m same in omega arith

-- a list parted by a test
record Sifted {X : Type 0} (xs : List X) (B : X → Type 0) : Type 0 where
  pub ins : List X
  pub outs : List X
  pub many : length xs ≡ length ins + length outs
  pub in_sound : (x : X) → StandsIn ins x → StandsIn xs x × B x
  pub out_sound : (x : X) → StandsIn outs x → StandsIn xs x × (¬ B x)
  pub in_all : (x : X) → StandsIn xs x → B x → StandsIn ins x
  pub out_all : (x : X) → StandsIn xs x → (¬ B x) → StandsIn outs x
  pub in_distinct : Distinct ins
  pub out_distinct : Distinct outs

sift : {X : Type 0} (B : X → Type 0) (xs : List X) → Distinct xs → ((x : X) → StandsIn xs x → B x ⊎ (¬ B x)) → Sifted xs B
sift {X} B [] d decide = record {
  ins = [];
  outs = [];
  many = refl;
  in_sound = λ x h. absurd h;
  out_sound = λ x h. absurd h;
  in_all = λ x h b. absurd h;
  out_all = λ x h b. absurd h;
  in_distinct = tt;
  out_distinct = tt;
}
sift {X} B (x ∷ xs) d decide =
    let s = sift B xs d.1 (λ z m. decide z (inr m)) in
    let many = s.many in
    elim (decide x (inl refl)) [
      | inl b ↦ record {
        ins = x ∷ s.ins;
        outs = s.outs;
        many = omega arith;
        in_sound = λ z h. elim h [ inl e ↦ (inl e, subst B e b) | inr m ↦ (let w = s.in_sound z m in (inr w.0, w.1)) ];
        out_sound = λ z m. (let w = s.out_sound z m in (inr w.0, w.1));
        in_all = λ z h c. elim h [ inl e ↦ inl e | inr m ↦ inr (s.in_all z m c) ];
        out_all = λ z h c. elim h [ inl e ↦ absurd (c (subst B e b)) | inr m ↦ s.out_all z m c ];
        in_distinct = (λ m. d.0 (s.in_sound x m).0, s.in_distinct);
        out_distinct = s.out_distinct;
      }
      | inr b ↦ record {
        ins = s.ins;
        outs = x ∷ s.outs;
        many = omega arith;
        in_sound = λ z m. (let w = s.in_sound z m in (inr w.0, w.1));
        out_sound = λ z h. elim h [ inl e ↦ (inl e, λ c. b (subst B (sym e) c)) | inr m ↦ (let w = s.out_sound z m in (inr w.0, w.1)) ];
        in_all = λ z h c. elim h [ inl e ↦ absurd (b (subst B (sym e) c)) | inr m ↦ s.in_all z m c ];
        out_all = λ z h c. elim h [ inl e ↦ inl e | inr m ↦ inr (s.out_all z m c) ];
        in_distinct = s.in_distinct;
        out_distinct = (λ m. d.0 (s.out_sound x m).0, s.out_distinct);
      }
    ]

-- those of A without B, where B is decidable
pub record Rest {X : Type 0} (A B : X → Type 0) (n k : ℕ) : Type 0 where
  pub fits : k ≤ n
  pub rest : IsCount (λ x. A x × (¬ B x)) (n - k)

pub count_rest : {X : Type 0} (A B : X → Type 0) (n k : ℕ) → IsCount A n → ((x : X) → A x → B x ⊎ (¬ B x)) → IsCount (λ x. A x × B x) k → Rest A B n k
count_rest {X} A B n k m decide both =
    let s = sift B m.members m.distinct (λ x h. decide x (m.sound x h)) in
    let ins : IsCount (λ x. A x × B x) (length s.ins) = record {
      members = s.ins;
      many = refl;
      sound = λ x h. (let w = s.in_sound x h in (m.sound x w.0, w.1));
      complete = λ x h. s.in_all x (m.complete x h.0) h.1;
      distinct = s.in_distinct;
    } in
    let same = count_unique (λ x. A x × B x) k (length s.ins) both ins in
    let many = s.many in let all = m.many in
    record {
      fits = omega arith;
      rest = record {
        members = s.outs;
        many = omega arith;
        sound = λ x h. (let w = s.out_sound x h in (m.sound x w.0, w.1));
        complete = λ x h. s.out_all x (m.complete x h.0) h.1;
        distinct = s.out_distinct;
      };
    }
