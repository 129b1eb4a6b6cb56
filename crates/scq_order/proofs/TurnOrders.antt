-- A plain queue gives values in the order in which they were put. Plan: along the order, what is ahead of a value stays ahead of it
-- until it is got: both in the queue, one in it, or neither yet
use Rattle.std.proofs.Common.{◌≡◌, ℕ, suc, ◌⊎◌, inl, inr, List, [], ◌∷◌, ◌++◌, refl, sym, ap, ◌∙◌, subst}
use Rattle.scq_hist.specs.Exports.{puts_before, IsCall, IsPut, StandsIn, Distinct}
use Rattle.scq_order.specs.Exports.{plain_reply, plain_after, Member, token, call_at, IsEnded, AnswersPlainly, StandsBefore}
use Rattle.scq_hist.specs.declared.events.Call.{Call}
use Rattle.scq_hist.specs.declared.events.Call.TheVariants.{Put, Get}
use Rattle.scq_hist.specs.declared.events.Event.{Event}
use Rattle.scq_hist.specs.declared.events.PutName.{PutName}
use Rattle.scq_hist.specs.declared.events.PutName.TheVariants.{Opening, Of}
use Rattle.scq_hist.specs.declared.events.Reply.{Reply}
use Rattle.scq_hist.specs.declared.events.Reply.TheVariants.{Got}
use Rattle.scq_hist.proofs.Puts.{one_start}
use Rattle.scq_order.proofs.FreshOrders.{PutsThis, one_reply, behind_is_in, front_is_in, pushed, put_before}
use Rattle.scq_order.proofs.EmptyOrders.{GetsIt, IsGotIn, got_more, stays, last, pair}

record StepPuts (opening : List (List ℕ)) (events : List Event) (z : Member) (queue next : List (PutName × List ℕ)) : Type 0 where
  pub w : PutName × List ℕ
  pub puts : PutsThis opening events z w
  pub is : next ≡ queue ++ w ∷ []

record StepGets (events : List Event) (z : Member) (queue next : List (PutName × List ℕ)) : Type 0 where
  pub r : ℕ
  pub front : PutName × List ℕ
  pub here : z ≡ call_at r
  pub gets : GetsIt events r front
  pub is : queue ≡ front ∷ next

record StepNone (opening : List (List ℕ)) (events : List Event) (z : Member) (queue next : List (PutName × List ℕ)) : Type 0 where
  pub was : queue ≡ []
  pub is : next ≡ []
  pub none : (w : PutName × List ℕ) → ¬ PutsThis opening events z w

record Stepped (opening : List (List ℕ)) (events : List Event) (z : Member) (queue : List (PutName × List ℕ)) (order : List Member) : Type 0 where
  pub next : List (PutName × List ℕ)
  pub step : StepPuts opening events z queue next ⊎ (StepGets events z queue next ⊎ StepNone opening events z queue next)
  pub rest : AnswersPlainly opening events next order

-- a get puts nothing
get_puts_none : (opening : List (List ℕ)) (events : List Event) (r seat p e : ℕ) (reply : Reply) → IsCall events seat (Get p) r e reply
    → (w : PutName × List ℕ) → ¬ PutsThis opening events (call_at r) w
get_puts_none opening events r seat p e reply is w t =
    let a = is.starts in let b = t.0.is.starts in let k = t.2 in absurd cc

call_step : (opening : List (List ℕ)) (events : List Event) (r : ℕ) (c : IsEnded events r) (call : Call) (queue : List (PutName × List ℕ)) (order : List Member)
    → c.call ≡ call → c.reply ≡ plain_reply queue call
    → AnswersPlainly opening events (plain_after queue (Of c.seat (suc (puts_before events c.seat r))) call) order
    → Stepped opening events (call_at r) queue order
call_step opening events r c (Put p w) queue order is reply plain = record {
  next = queue ++ (Of c.seat (suc (puts_before events c.seat r)), w) ∷ [];
  step = inl (record { w = (Of c.seat (suc (puts_before events c.seat r)), w); puts = (c, p, is, refl); is = refl });
  rest = plain;
}
call_step opening events r c (Get p) [] order is reply plain = record {
  next = [];
  step = inr (inr (record {
    was = refl;
    is = refl;
    none = get_puts_none opening events r c.seat p c.e c.reply (subst (λ z. IsCall events c.seat z r c.e c.reply) is c.is);
  }));
  rest = plain;
}
call_step opening events r c (Get p) (front ∷ queue) order is reply plain = record {
  next = queue;
  step = inr (inl (record {
    r = r;
    front = front;
    here = refl;
    gets = record {
      seat = c.seat;
      q = p;
      e = c.e;
      is = subst (λ z. IsCall events c.seat (Get p) r c.e z) reply (subst (λ z. IsCall events c.seat z r c.e c.reply) is c.is);
    };
    is = refl;
  }));
  rest = plain;
}

step : (opening : List (List ℕ)) (events : List Event) (z : Member) (queue : List (PutName × List ℕ)) (order : List Member)
    → AnswersPlainly opening events queue (z ∷ order) → Stepped opening events z queue order
step opening events (token j) queue order plain = record {
  next = queue ++ (Opening j, plain.0) ∷ [];
  step = inl (record { w = (Opening j, plain.0); puts = (refl, plain.1); is = refl });
  rest = plain.2;
}
step opening events (call_at r) queue order plain = call_step opening events r plain.0 plain.0.call queue order refl plain.1 plain.2

-- a member puts one value, and a value is put by one member
puts_one : (opening : List (List ℕ)) (events : List Event) (z : Member) (v w : PutName × List ℕ) → PutsThis opening events z v → PutsThis opening events z w → v ≡ w
puts_one opening events (token j) v w a b =
    let names : v.0 ≡ w.0 = a.0 ∙ sym b.0 in
    let x = a.1 in let y = b.1 in
    pair w v.0 v.1 names cc
puts_one opening events (call_at r) v w a b =
    let x = a.0.is.starts in let y = b.0.is.starts in
    let k = a.2 in let l = b.2 in
    let seats : a.0.seat ≡ b.0.seat = cc in
    let contents : v.1 ≡ w.1 = cc in
    let names : v.0 ≡ w.0 = subst (λ z. v.0 ≡ Of z (suc (puts_before events z r))) seats a.3 ∙ sym b.3 in
    pair w v.0 v.1 names contents

pub put_is : (events : List Event) (r seat : ℕ) (c : IsEnded events r) (q : ℕ) (w : List ℕ) (n : ℕ) → c.call ≡ Put q w → n ≡ suc (puts_before events c.seat r)
    → c.seat ≡ seat → IsPut events seat n q w r
put_is events r seat c q w n is counted same =
    let a : IsPut events c.seat n q w r = record { starts = (let s = c.is.starts in cc); counted = counted } in
    subst (λ z. IsPut events z n q w r) same a

one_by : (opening : List (List ℕ)) (events : List Event) (y z : Member) (v : PutName × List ℕ) → PutsThis opening events y v → PutsThis opening events z v → y ≡ z
one_by opening events (token i) (token j) v a b = let x = a.0 in let y = b.0 in let same : i ≡ j = cc in ap token same
one_by opening events (token i) (call_at r) v a b = let x = a.0 in let y = b.3 in absurd cc
one_by opening events (call_at r) (token i) v a b = let x = b.0 in let y = a.3 in absurd cc
one_by opening events (call_at r) (call_at t) v a b =
    let x = a.3 in let y = b.3 in
    let seats : b.0.seat ≡ a.0.seat = cc in
    let counts : suc (puts_before events a.0.seat r) ≡ suc (puts_before events b.0.seat t) = cc in
    let p = put_is events r a.0.seat a.0 a.1 v.1 (suc (puts_before events a.0.seat r)) a.2 refl refl in
    let q = put_is events t a.0.seat b.0 b.1 v.1 (suc (puts_before events a.0.seat r)) b.2 counts seats in
    ap call_at (one_start events a.0.seat (suc (puts_before events a.0.seat r)) a.1 b.1 r t v.1 v.1 p q)

-- what is in the queue is put by nobody behind, and stands in it once
pub record IsApart (opening : List (List ℕ)) (events : List Event) (queue : List (PutName × List ℕ)) (order : List Member) : Type 0 where
  pub distinct : Distinct queue
  pub unput : (w : PutName × List ℕ) → StandsIn queue w → (y : Member) → StandsIn order y → ¬ PutsThis opening events y w
  pub members : Distinct order

distinct_push : {X : Type 0} (xs : List X) (x : X) → Distinct xs → (¬ StandsIn xs x) → Distinct (xs ++ x ∷ [])
distinct_push {X} [] x d new = ((λ h. h), tt)
distinct_push {X} (z ∷ zs) x d new =
    (λ h. elim (pushed zs x z h) [ inl m ↦ d.0 m | inr e ↦ new (inl (sym e)) ], distinct_push zs x d.1 (λ m. new (inr m)))

after_put : (opening : List (List ℕ)) (events : List Event) (z : Member) (w : PutName × List ℕ) (queue : List (PutName × List ℕ)) (order : List Member)
    → PutsThis opening events z w → IsApart opening events queue (z ∷ order) → IsApart opening events (queue ++ w ∷ []) order
after_put opening events z w queue order puts a = record {
  distinct = distinct_push queue w a.distinct (λ h. a.unput w h z (inl refl) puts);
  unput = λ x h y k p. elim (pushed queue w x h) [
    | inl m ↦ a.unput x m y (inr k) p
    | inr e ↦ a.members.0 (subst (λ m. StandsIn order m) (one_by opening events y z w (subst (λ v. PutsThis opening events y v) (sym e) p) puts) k)
  ];
  members = a.members.1;
}

next_apart : (opening : List (List ℕ)) (events : List Event) (z : Member) (queue : List (PutName × List ℕ)) (order : List Member)
    → (t : Stepped opening events z queue order) → IsApart opening events queue (z ∷ order) → IsApart opening events t.next order
next_apart opening events z queue order t a = elim t.step [
  | inl p ↦ subst (λ n. IsApart opening events n order) (sym p.is) (after_put opening events z p.w queue order p.puts a)
  | inr g ↦ elim g [
    | inl k ↦ (let b = subst (λ n. IsApart opening events n (z ∷ order)) k.is a in record {
      distinct = b.distinct.1;
      unput = λ w h y s. b.unput w (inr h) y (inr s);
      members = b.members.1;
    })
    | inr n ↦ subst (λ n. IsApart opening events n order) (sym n.is) (record {
      distinct = tt;
      unput = λ w h y s. absurd h;
      members = a.members.1;
    })
  ]
]

before_push : {X : Type 0} (xs : List X) (a b y : X) → StandsBefore xs a b → StandsBefore (xs ++ y ∷ []) a b
before_push {X} [] a b y h = absurd h
before_push {X} (z ∷ zs) a b y (inl w) = inl (w.0, stays zs y b w.1)
before_push {X} (z ∷ zs) a b y (inr h) = inr (before_push zs a b y h)

in_then_last : {X : Type 0} (xs : List X) (a y b : X) → StandsIn xs a → y ≡ b → StandsBefore (xs ++ y ∷ []) a b
in_then_last {X} [] a y b h e = absurd h
in_then_last {X} (z ∷ zs) a y b (inl s) e = inl (s, last zs y b e)
in_then_last {X} (z ∷ zs) a y b (inr h) e = inr (in_then_last zs a y b h e)

pub record IsPutIn (opening : List (List ℕ)) (events : List Event) (order : List Member) (v : PutName × List ℕ) : Type 0 where
  pub by : Member
  pub puts_it : PutsThis opening events by v
  pub is_in : StandsIn order by

pub record PutsInTurn (opening : List (List ℕ)) (events : List Event) (order : List Member) (u v : PutName × List ℕ) : Type 0 where
  pub one : Member
  pub two : Member
  pub puts_one : PutsThis opening events one u
  pub puts_two : PutsThis opening events two v
  pub before : StandsBefore order one two

abbrev pub IsAhead : List (List ℕ) → List Event → List (PutName × List ℕ) → List Member → PutName × List ℕ → PutName × List ℕ → Type 0
IsAhead opening events queue order u v =
    StandsBefore queue u v ⊎ ((StandsIn queue u × IsPutIn opening events order v) ⊎ PutsInTurn opening events order u v)

-- ahead still after one member more, or got by it
ahead_next : (opening : List (List ℕ)) (events : List Event) (z : Member) (queue : List (PutName × List ℕ)) (order : List Member) (u v : PutName × List ℕ)
    → (t : Stepped opening events z queue order) → IsAhead opening events queue (z ∷ order) u v
    → IsAhead opening events t.next order u v ⊎ ((r : ℕ) × (z ≡ call_at r) × GetsIt events r u)
ahead_next opening events z queue order u v t ahead = elim t.step [
  | inl p ↦ inl (subst (λ n. IsAhead opening events n order u v) (sym p.is) (put_case p.w p.puts ahead))
  | inr g ↦ elim g [
    | inl k ↦ get_case k.r k.front k.here k.gets (subst (λ n. IsAhead opening events n (z ∷ order) u v) k.is ahead)
    | inr n ↦ none_case n.none (subst (λ n. IsAhead opening events n (z ∷ order) u v) n.was ahead)
  ]
] where
  put_case : (w : PutName × List ℕ) → PutsThis opening events z w → IsAhead opening events queue (z ∷ order) u v → IsAhead opening events (queue ++ w ∷ []) order u v
  put_case w puts (inl b) = inl (before_push queue u v w b)
  put_case w puts (inr (inl h)) = elim h.1.is_in [
    | inl e ↦ inl (in_then_last queue u w v h.0 (puts_one opening events z w v puts (subst (λ m. PutsThis opening events m v) (sym e) h.1.puts_it)))
    | inr k ↦ inr (inl (stays queue w u h.0, record { by = h.1.by; puts_it = h.1.puts_it; is_in = k }))
  ]
  put_case w puts (inr (inr c)) = elim c.before [
    | inl b ↦ inr (inl (
      last queue w u (puts_one opening events z w u puts (subst (λ m. PutsThis opening events m u) (sym b.0) c.puts_one)),
      record { by = c.two; puts_it = c.puts_two; is_in = b.1 },
    ))
    | inr k ↦ inr (inr (record { one = c.one; two = c.two; puts_one = c.puts_one; puts_two = c.puts_two; before = k }))
  ]

  get_case : (r : ℕ) (front : PutName × List ℕ) → z ≡ call_at r → GetsIt events r front → IsAhead opening events (front ∷ t.next) (z ∷ order) u v
      → IsAhead opening events t.next order u v ⊎ ((r : ℕ) × (z ≡ call_at r) × GetsIt events r u)
  get_case r front here gets (inl (inl w)) = inr (r, here, subst (λ y. GetsIt events r y) w.0 gets)
  get_case r front here gets (inl (inr b)) = inl (inl b)
  get_case r front here gets (inr (inl h)) = elim h.0 [
    | inl e ↦ inr (r, here, subst (λ y. GetsIt events r y) e gets)
    | inr k ↦ elim h.1.is_in [
      | inl e ↦ absurd (get_puts_none opening events r gets.seat gets.q gets.e (Got front.0 front.1) gets.is v
          (subst (λ m. PutsThis opening events m v) (sym e ∙ here) h.1.puts_it))
      | inr s ↦ inl (inr (inl (k, record { by = h.1.by; puts_it = h.1.puts_it; is_in = s })))
    ]
  ]
  get_case r front here gets (inr (inr c)) = elim c.before [
    | inl b ↦ absurd (get_puts_none opening events r gets.seat gets.q gets.e (Got front.0 front.1) gets.is u
        (subst (λ m. PutsThis opening events m u) (sym b.0 ∙ here) c.puts_one))
    | inr k ↦ inl (inr (inr (record { one = c.one; two = c.two; puts_one = c.puts_one; puts_two = c.puts_two; before = k })))
  ]

  none_case : ((w : PutName × List ℕ) → ¬ PutsThis opening events z w) → IsAhead opening events [] (z ∷ order) u v
      → IsAhead opening events t.next order u v ⊎ ((r : ℕ) × (z ≡ call_at r) × GetsIt events r u)
  none_case none (inl b) = absurd b
  none_case none (inr (inl h)) = absurd h.0
  none_case none (inr (inr c)) = elim c.before [
    | inl b ↦ absurd (none u (subst (λ m. PutsThis opening events m u) (sym b.0) c.puts_one))
    | inr k ↦ inl (inr (inr (record { one = c.one; two = c.two; puts_one = c.puts_one; puts_two = c.puts_two; before = k })))
  ]

front_is : (queue : List (PutName × List ℕ)) (q : ℕ) (v : PutName × List ℕ) → Got v.0 v.1 ≡ plain_reply queue (Get q)
    → (rest : List (PutName × List ℕ)) × (queue ≡ v ∷ rest)
front_is [] q v h = absurd cc
front_is (front ∷ queue) q v h =
    let a : front.0 ≡ v.0 = cc in
    let b : front.1 ≡ v.1 = cc in
    (queue, ap (λ z. z ∷ queue) (pair v front.0 front.1 a b))

front_here : (events : List Event) (s e seat q : ℕ) (v : PutName × List ℕ) (queue : List (PutName × List ℕ)) → IsCall events seat (Get q) s e (Got v.0 v.1)
    → (r : ℕ) → r ≡ s → (c : IsEnded events r) → c.reply ≡ plain_reply queue c.call → (rest : List (PutName × List ℕ)) × (queue ≡ v ∷ rest)
front_here events s e seat q v queue is r starts c reply =
    let same = one_reply events r e seat (Get q) (Got v.0 v.1) (subst (λ z. IsCall events seat (Get q) z e (Got v.0 v.1)) (sym starts) is) c in
    front_is queue q v (sym same.1 ∙ reply ∙ ap (λ z. plain_reply queue z) same.0)

-- what gets v finds it in front
front_at : (opening : List (List ℕ)) (events : List Event) (s e seat q : ℕ) (v : PutName × List ℕ) → IsCall events seat (Get q) s e (Got v.0 v.1)
    → (z : Member) (queue : List (PutName × List ℕ)) (order : List Member) → AnswersPlainly opening events queue (z ∷ order) → z ≡ call_at s
    → (rest : List (PutName × List ℕ)) × (queue ≡ v ∷ rest)
front_at opening events s e seat q v is (token j) queue order plain same = absurd cc
front_at opening events s e seat q v is (call_at r) queue order plain same =
    let starts : r ≡ s = cc in front_here events s e seat q v queue is r starts plain.0 plain.1

none_ahead : (opening : List (List ℕ)) (events : List Event) (rest : List (PutName × List ℕ)) (order : List Member) (u v : PutName × List ℕ)
    → IsApart opening events (v ∷ rest) order → ¬ IsAhead opening events (v ∷ rest) order u v
none_ahead opening events rest order u v a (inl (inl w)) = a.distinct.0 w.1
none_ahead opening events rest order u v a (inl (inr b)) = a.distinct.0 (behind_is_in rest u v b)
none_ahead opening events rest order u v a (inr (inl h)) = a.unput v (inl refl) h.1.by h.1.is_in h.1.puts_it
none_ahead opening events rest order u v a (inr (inr c)) = a.unput v (inl refl) c.two (behind_is_in order c.one c.two c.before) c.puts_two

-- when v is got, what was ahead of it has been got
pub in_turn : (opening : List (List ℕ)) (events : List Event) (s e seat q : ℕ) (v : PutName × List ℕ) → IsCall events seat (Get q) s e (Got v.0 v.1)
    → (queue : List (PutName × List ℕ)) (order : List Member) → AnswersPlainly opening events queue order → IsApart opening events queue order
    → StandsIn order (call_at s) → (u : PutName × List ℕ) → IsAhead opening events queue order u v → IsGotIn events order (call_at s) u
in_turn opening events s e seat q v is queue [] plain a h u ahead = absurd h
in_turn opening events s e seat q v is queue (z ∷ order) plain a (inl same) u ahead =
    let f = front_at opening events s e seat q v is z queue order plain same in
    absurd (none_ahead opening events f.0 (z ∷ order) u v (subst (λ n. IsApart opening events n (z ∷ order)) f.1 a)
    (subst (λ n. IsAhead opening events n (z ∷ order) u v) f.1 ahead))
in_turn opening events s e seat q v is queue (z ∷ order) plain a (inr h) u ahead =
    let t = step opening events z queue order plain in
    elim (ahead_next opening events z queue order u v t ahead) [
      | inl k ↦ got_more events z order (call_at s) u (in_turn opening events s e seat q v is t.next order t.rest (next_apart opening events z queue order t a) h u k)
      | inr g ↦ record { r = g.0; gets_it = g.2; before = inl (g.1, h) }
    ]

-- no two get the same
pub no_second : (opening : List (List ℕ)) (events : List Event) (s e seat q t f k p : ℕ) (v : PutName × List ℕ) → IsCall events seat (Get q) s e (Got v.0 v.1)
    → IsCall events k (Get p) t f (Got v.0 v.1) → (queue : List (PutName × List ℕ)) (order : List Member) → AnswersPlainly opening events queue order
    → IsApart opening events queue order → ¬ StandsBefore order (call_at s) (call_at t)
no_second opening events s e seat q t f k p v is that queue [] plain a b = absurd b
no_second opening events s e seat q t f k p v is that queue (z ∷ order) plain a (inr b) =
    let w = step opening events z queue order plain in
    no_second opening events s e seat q t f k p v is that w.next order w.rest (next_apart opening events z queue order w a) b
no_second opening events s e seat q t f k p v is that queue (z ∷ order) plain a (inl b) =
    let fr = front_at opening events s e seat q v is z queue order plain b.0 in
    let w = step opening events z queue order plain in
    let a2 = subst (λ n. IsApart opening events n (z ∷ order)) fr.1 a in
    elim w.step [
      | inl y ↦ get_puts_none opening events s seat q e (Got v.0 v.1) is y.w (subst (λ m. PutsThis opening events m y.w) b.0 y.puts)
      | inr g ↦ elim g [
        | inl y ↦ (
            let gone : ¬ StandsIn w.next v = subst (λ n. ¬ StandsIn n v) (tails (sym y.is ∙ fr.1)) a2.distinct.0 in
            elim (put_before opening events t f k p v that w.next order w.rest b.1) [
              | inl m ↦ gone m
              | inr m ↦ a2.unput v (inl refl) m.by (inr (front_is_in order m.by (call_at t) m.before)) m.puts_it
            ])
        | inr y ↦ (let c = fr.1 in let d = y.was in absurd cc)
      ]
    ]
  where
    tails : {x y : PutName × List ℕ} {xs ys : List (PutName × List ℕ)} → x ∷ xs ≡ y ∷ ys → ys ≡ xs
    tails e = cc
