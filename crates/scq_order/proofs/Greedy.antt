-- Ordered values have points, and the list that takes the front of the queue as soon as its point comes, and else puts the next
-- value, is followed by a queue, and its points don't fall. Plan: by what is left; the front's get comes before all gets behind it,
-- and an instant value is put only to an empty queue, since the gets before its own come no later than its put
use Rattle.std.proofs.Common.{◌≡◌, ℕ, zero, suc, ◌+◌, ◌≤◌, ◌⊎◌, inl, inr, List, [], ◌∷◌, ◌++◌, length, refl, sym, ap, subst, arith, append_assoc, length-append}
use Rattle.std.specs.Prelude.{max}
use Rattle.std.proofs.lemmas.Bool.{cases_lt}
use Rattle.scq_hist.specs.Exports.{StandsIn, Distinct}
use Rattle.scq_order.proofs.Values.{Value, IsTrimmed, AreInOrder}
use Rattle.scq_order.proofs.Ops.{Pointed, IsPoint, points, PutFrom, GotFrom, IsInstant, Op, puts, gets, finds_none, Follows, Ascends, Happens, IsOpOf}

-- the points of ordered values
pub record AreGood (t u : ℕ) (ps : List Pointed) : Type 0 where
  pub point : (p : Pointed) → StandsIn ps p → IsPoint p
  pub puts_from : PutFrom t ps
  pub gets_from : GotFrom u ps

pub are_good : (t u : ℕ) (vs : List Value) → t ≤ u → ((v : Value) → StandsIn vs v → IsTrimmed v)
    → ((v : Value) → StandsIn vs v → t ≤ v.put_till) → ((v : Value) → StandsIn vs v → u ≤ v.got_till) → AreInOrder vs → AreGood t u (points t u vs)
are_good t u [] le trimmed low high o = record { point = λ p h. absurd h; puts_from = tt; gets_from = tt }
are_good t u (v ∷ vs) le trimmed low high o =
    let tv = trimmed v (inl refl) in
    let lv = low v (inl refl) in
    let hv = high v (inl refl) in
    let a = tv.put in let b = tv.got in let c = tv.begins in
    let rest = are_good (max t v.put_from) (max u v.got_from) vs (omega arith) (λ w h. trimmed w (inr h))
    (λ w h. let m = (o.0 w h).put in let l = low w (inr h) in omega arith)
    (λ w h. let m = (o.0 w h).got in let l = high w (inr h) in omega arith) o.1 in
    let here : IsPoint (record { value = v; put_at = max t v.put_from; got_at = max u v.got_from }) = record {
      put_low = omega arith;
      put_high = omega arith;
      got_low = omega arith;
      got_high = omega arith;
      turn = omega arith;
    } in
    record {
      point = λ p h. elim h [ inl e ↦ subst IsPoint e here | inr m ↦ rest.point p m ];
      puts_from = (omega arith, rest.puts_from);
      gets_from = (omega arith, rest.gets_from);
    }

stands_push : {X : Type 0} (xs : List X) (x : X) → StandsIn (xs ++ x ∷ []) x
stands_push {X} [] x = inl refl
stands_push {X} (y ∷ ys) x = inr (stands_push ys x)

stands_before : {X : Type 0} (xs ys : List X) (x : X) → StandsIn xs x → StandsIn (xs ++ ys) x
stands_before {X} [] ys x h = absurd h
stands_before {X} (z ∷ zs) ys x (inl e) = inl e
stands_before {X} (z ∷ zs) ys x (inr h) = inr (stands_before zs ys x h)

stands_after : {X : Type 0} (xs ys : List X) (x : X) → StandsIn ys x → StandsIn (xs ++ ys) x
stands_after {X} [] ys x h = h
stands_after {X} (z ∷ zs) ys x h = inr (stands_after zs ys x h)

distinct_after : {X : Type 0} (xs ys : List X) → Distinct (xs ++ ys) → Distinct ys
distinct_after {X} [] ys d = d
distinct_after {X} (x ∷ xs) ys d = distinct_after xs ys d.1

got_later : (a b : ℕ) (ps : List Pointed) → a ≤ b → GotFrom b ps → GotFrom a ps
got_later a b [] le g = tt
got_later a b (p ∷ ps) le g = (let x = g.0 in omega arith, g.1)

-- what is asked for: a queue that holds the values of `queue` follows it, all happens to those of
-- `rest`, and nothing else happens, nor anything twice
pub record IsRun (p : ℕ) (queue rest : List Pointed) (ops : List Op) : Type 0 where
  pub follows : Follows queue ops
  pub ascends : Ascends p ops
  pub waiting : (x : Pointed) → StandsIn queue x → StandsIn ops (gets x)
  pub happens : (x : Pointed) → StandsIn rest x → Happens ops x
  pub only : (op : Op) → StandsIn ops op → IsOpOf queue rest op
  pub once : Distinct ops

-- an op more in front
happens_more : (ops : List Op) (op : Op) (x : Pointed) → Happens ops x → Happens (op ∷ ops) x
happens_more ops op x h = record { instant = λ i. inr (h.instant i); put = λ n. inr (h.put n); got = λ n. inr (h.got n) }

-- a value more in the queue, or to come
waits_more : (q : Pointed) (queue rest : List Pointed) (op : Op) → IsOpOf queue rest op → IsOpOf (q ∷ queue) rest op
waits_more q queue rest (puts x) h = h
waits_more q queue rest (gets x) (inl h) = inl (inr h)
waits_more q queue rest (gets x) (inr h) = inr h
waits_more q queue rest (finds_none x) h = h

comes_more : (y : Pointed) (rest : List Pointed) (op : Op) → IsOpOf [] rest op → IsOpOf [] (y ∷ rest) op
comes_more y rest (puts x) h = (inr h.0, h.1)
comes_more y rest (gets x) (inl h) = absurd h
comes_more y rest (gets x) (inr h) = inr (inr h.0, h.1)
comes_more y rest (finds_none x) h = (inr h.0, h.1)

pushed_or_there : {X : Type 0} (xs : List X) (x y : X) → StandsIn (xs ++ x ∷ []) y → StandsIn xs y ⊎ (x ≡ y)
pushed_or_there {X} [] x y (inl e) = inr e
pushed_or_there {X} [] x y (inr h) = absurd h
pushed_or_there {X} (z ∷ zs) x y (inl e) = inl (inl e)
pushed_or_there {X} (z ∷ zs) x y (inr h) = elim (pushed_or_there zs x y h) [ inl m ↦ inl (inr m) | inr e ↦ inr e ]

put_more : (y : Pointed) (queue rest : List Pointed) (op : Op) → (¬ IsInstant y.value) → IsOpOf (queue ++ y ∷ []) rest op → IsOpOf queue (y ∷ rest) op
put_more y queue rest (puts x) ni h = (inr h.0, h.1)
put_more y queue rest (gets x) ni (inl h) = elim (pushed_or_there queue y x h) [
  | inl m ↦ inl m
  | inr e ↦ inr (inl e, subst (λ z. ¬ IsInstant z.value) e ni)
]
put_more y queue rest (gets x) ni (inr h) = inr (inr h.0, h.1)
put_more y queue rest (finds_none x) ni h = (inr h.0, h.1)

-- the front is got
get_first : (p : ℕ) (q : Pointed) (queue rest : List Pointed) (ops : List Op) → p ≤ q.got_at → Distinct ((q ∷ queue) ++ rest)
    → IsRun q.got_at queue rest ops → IsRun p (q ∷ queue) rest (gets q ∷ ops)
get_first p q queue rest ops le d r = record {
  follows = (queue, refl, r.follows);
  ascends = (le, r.ascends);
  waiting = λ x h. elim h [ inl e ↦ inl (ap gets e) | inr m ↦ inr (r.waiting x m) ];
  happens = λ x h. happens_more ops (gets q) x (r.happens x h);
  only = λ op h. elim h [
    | inl e ↦ subst (λ z. IsOpOf (q ∷ queue) rest z) e (inl (inl refl))
    | inr m ↦ waits_more q queue rest op (r.only op m)
  ];
  once = (
    λ h. elim (r.only (gets q) h) [
      | inl m ↦ d.0 (stands_before queue rest q m)
      | inr m ↦ d.0 (stands_after queue rest q m.0)
    ],
    r.once,
  );
}

-- a value is put that isn't instant
put_next : (p : ℕ) (x : Pointed) (queue rest : List Pointed) (ops : List Op) → p ≤ x.put_at → (¬ IsInstant x.value) → Distinct (queue ++ x ∷ rest)
    → IsRun x.put_at (queue ++ x ∷ []) rest ops → IsRun p queue (x ∷ rest) (puts x ∷ ops)
put_next p x queue rest ops le ni d r = record {
  follows = r.follows;
  ascends = (le, r.ascends);
  waiting = λ y h. inr (r.waiting y (stands_before queue (x ∷ []) y h));
  happens = λ y h. elim h [
    | inl e ↦ subst (λ z. Happens (puts x ∷ ops) z) e (record {
      instant = λ i. absurd (ni i);
      put = λ n. inl refl;
      got = λ n. inr (r.waiting x (stands_push queue x));
    })
    | inr m ↦ happens_more ops (puts x) y (r.happens y m)
  ];
  only = λ op h. elim h [
    | inl e ↦ subst (λ z. IsOpOf queue (x ∷ rest) z) e (inl refl, ni)
    | inr m ↦ put_more x queue rest op ni (r.only op m)
  ];
  once = (λ h. (distinct_after queue (x ∷ rest) d).0 (r.only (puts x) h).0, r.once);
}

-- nothing is found
none_next : (p : ℕ) (x : Pointed) (rest : List Pointed) (ops : List Op) → p ≤ x.put_at → IsInstant x.value → Distinct (x ∷ rest)
    → IsRun x.put_at [] rest ops → IsRun p [] (x ∷ rest) (finds_none x ∷ ops)
none_next p x rest ops le i d r = record {
  follows = (refl, r.follows);
  ascends = (le, r.ascends);
  waiting = λ y h. absurd h;
  happens = λ y h. elim h [
    | inl e ↦ subst (λ z. Happens (finds_none x ∷ ops) z) e (record {
      instant = λ i. inl refl;
      put = λ n. absurd (n i);
      got = λ n. absurd (n i);
    })
    | inr m ↦ happens_more ops (finds_none x) y (r.happens y m)
  ];
  only = λ op h. elim h [
    | inl e ↦ subst (λ z. IsOpOf [] (x ∷ rest) z) e (inl refl, i)
    | inr m ↦ comes_more x rest op (r.only op m)
  ];
  once = (λ h. d.0 (r.only (finds_none x) h).0, r.once);
}

got_before : (u : ℕ) (queue : List Pointed) (x : Pointed) (rest : List Pointed) → GotFrom u (queue ++ x ∷ rest) → u ≤ x.got_at
got_before u [] x rest g = g.0
got_before u (q ∷ queue) x rest g = let a = got_before q.got_at queue x rest g.1 in let b = g.0 in omega arith

pub run_of : (n p : ℕ) (queue rest : List Pointed) → length rest + length rest + length queue ≤ n
    → ((x : Pointed) → StandsIn rest x → IsPoint x) → PutFrom p rest → GotFrom p (queue ++ rest) → Distinct (queue ++ rest)
    → (ops : List Op) × IsRun p queue rest ops
run_of n p [] [] many point from got d =
    ([], record { follows = refl; ascends = tt; waiting = λ x h. absurd h; happens = λ x h. absurd h; only = λ op h. absurd h; once = tt })
run_of zero p (q ∷ queue) [] many point from got d = absurd (omega arith)
run_of (suc n) p (q ∷ queue) [] many point from got d =
    let r = run_of n q.got_at queue [] (omega arith) point tt got.1 d.1 in
    (gets q ∷ r.0, get_first p q queue [] r.0 got.0 d r.1)
run_of zero p [] (x ∷ rest) many point from got d = absurd (omega arith)
run_of (suc n) p [] (x ∷ rest) many point from got d =
    let px = point x (inl refl) in
    let turn = px.turn in
    elim (cases_lt x.value.put_from x.value.got_till) [
      | inl lt ↦ (
          let r = run_of n x.put_at (x ∷ []) rest (omega arith) (λ y h. point y (inr h)) from.1 (turn, got.1) d in
          (puts x ∷ r.0, put_next p x [] rest r.0 from.0 (λ i. omega arith) d r.1))
      | inr le ↦ (
          let r = run_of n x.put_at [] rest (omega arith) (λ y h. point y (inr h)) from.1 (got_later x.put_at x.got_at rest turn got.1) d.1 in
          (finds_none x ∷ r.0, none_next p x rest r.0 from.0 le d r.1))
    ]
run_of zero p (q ∷ queue) (x ∷ rest) many point from got d = absurd (omega arith)
run_of (suc n) p (q ∷ queue) (x ∷ rest) many point from got d =
    let px = point x (inl refl) in
    elim (cases_lt x.put_at q.got_at) [
      | inl lt ↦ (
          let le : x.put_at ≤ q.got_at = omega arith in
          let late = got_before q.got_at queue x rest got.1 in
          let low = px.put_low in
          let high = px.got_high in
          let size = length-append queue (x ∷ []) in
          let r = run_of n x.put_at ((q ∷ queue) ++ x ∷ []) rest (omega arith) (λ y h. point y (inr h)) from.1
          (le, subst (λ z. GotFrom q.got_at z) (sym (append_assoc queue (x ∷ []) rest)) got.1)
          (subst (λ z. Distinct (q ∷ z)) (sym (append_assoc queue (x ∷ []) rest)) d) in
          (puts x ∷ r.0, put_next p x (q ∷ queue) rest r.0 from.0 (λ i. omega arith) d r.1))
      | inr le ↦ (
          let r = run_of n q.got_at queue (x ∷ rest) (omega arith) point (le, from.1) got.1 d.1 in
          (gets q ∷ r.0, get_first p q queue (x ∷ rest) r.0 got.0 d r.1))
    ]
