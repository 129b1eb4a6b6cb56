-- Where each queue has a one-thread order, and no put is got twice, each Nothing is right. Plan: its moment is just after the
-- latest start of the members up to it. What is finished then ended before that member started, so it stands before the Nothing;
-- as the queue is empty there, all that was put before was got before (by induction along the order)
use Rattle.std.proofs.Common.{◌≡◌, ℕ, suc, ◌<◌, ◌≤◌, ◌⊎◌, inl, inr, List, [], ◌∷◌, ◌++◌, refl, sym, ap, ◌∙◌, subst, arith}
use Rattle.std.specs.Prelude.{Some, slice_get, get_or}
use Rattle.std.proofs.lemmas.Bool.{cases_lt, cases_order}
use Rattle.std.proofs.lemmas.Option.{slice_get-get_or}
use Rattle.scq_hist.specs.Exports.{puts_before, IsCall, IsFinishedAt, IsGotBefore, IsOnce, IsEmptyRight, StandsIn, Distinct}
use Rattle.scq_order.specs.Exports.{plain_reply, plain_after, Member, token, call_at, IsEnded, AnswersPlainly, StandsBefore, IsOrderOf, HasOrders}
use Rattle.scq_hist.specs.declared.events.Call.{Call}
use Rattle.scq_hist.specs.declared.events.Call.TheVariants.{Put, Get}
use Rattle.scq_hist.specs.declared.events.Event.{Event}
use Rattle.scq_hist.specs.declared.events.Event.TheVariants.{Start, End}
use Rattle.scq_hist.specs.declared.events.PutName.{PutName}
use Rattle.scq_hist.specs.declared.events.PutName.TheVariants.{Opening, Of}
use Rattle.scq_hist.specs.declared.events.Reply.{Reply}
use Rattle.scq_hist.specs.declared.events.Reply.TheVariants.{Done, Got, Nothing}
use Rattle.scq_hist.proofs.UnderWay.{started}
use Rattle.scq_hist.proofs.TallyLemmas.{names_from_get}
use Rattle.scq_order.proofs.FreshOrders.{PutsThis, IsPutBefore, one_reply, behind_is_in, front_is_in, one_way}

-- the call that starts there gets the value
pub record GetsIt (events : List Event) (r : ℕ) (u : PutName × List ℕ) : Type 0 where
  pub seat : ℕ
  pub q : ℕ
  pub e : ℕ
  pub is : IsCall events seat (Get q) r e (Got u.0 u.1)

pub record IsGotIn (events : List Event) (order : List Member) (x : Member) (u : PutName × List ℕ) : Type 0 where
  pub r : ℕ
  pub gets_it : GetsIt events r u
  pub before : StandsBefore order (call_at r) x

pub got_more : (events : List Event) (z : Member) (order : List Member) (x : Member) (u : PutName × List ℕ) → IsGotIn events order x u
    → IsGotIn events (z ∷ order) x u
got_more events z order x u g = record { r = g.r; gets_it = g.gets_it; before = inr g.before }

first_put : (opening : List (List ℕ)) (events : List Event) (z : Member) (order : List Member) (x : Member) (u : PutName × List ℕ)
    → IsPutBefore opening events (z ∷ order) x u → PutsThis opening events z u ⊎ IsPutBefore opening events order x u
first_put opening events z order x u p = elim p.before [
  | inl w ↦ inl (subst (λ y. PutsThis opening events y u) (sym w.0) p.puts_it)
  | inr b ↦ inr (record { by = p.by; puts_it = p.puts_it; before = b })
]

pub stays : {X : Type 0} (xs : List X) (x y : X) → StandsIn xs y → StandsIn (xs ++ x ∷ []) y
stays {X} [] x y h = absurd h
stays {X} (z ∷ zs) x y (inl e) = inl e
stays {X} (z ∷ zs) x y (inr h) = inr (stays zs x y h)

pub last : {X : Type 0} (xs : List X) (x y : X) → x ≡ y → StandsIn (xs ++ x ∷ []) y
last {X} [] x y e = inl e
last {X} (z ∷ zs) x y e = inr (last zs x y e)

pub pair : (u : PutName × List ℕ) (n : PutName) (w : List ℕ) → n ≡ u.0 → w ≡ u.1 → ◌≡◌ {A = PutName × List ℕ} (n, w) u
pair u n w a b = subst (λ z. ◌≡◌ {A = PutName × List ℕ} (n, w) (z, u.1)) a (subst (λ z. ◌≡◌ {A = PutName × List ℕ} (n, w) (n, z)) b refl)

-- a call keeps what the queue has and what it puts, but for what it gets
call_keeps : (opening : List (List ℕ)) (events : List Event) (r : ℕ) (c : IsEnded events r) (call : Call) (queue : List (PutName × List ℕ)) (u : PutName × List ℕ)
    → c.call ≡ call → c.reply ≡ plain_reply queue call → StandsIn queue u ⊎ PutsThis opening events (call_at r) u
    → StandsIn (plain_after queue (Of c.seat (suc (puts_before events c.seat r))) call) u ⊎ GetsIt events r u
call_keeps opening events r c (Put p w) queue u is reply (inl h) = inl (stays queue (Of c.seat (suc (puts_before events c.seat r)), w) u h)
call_keeps opening events r c (Put p w) queue u is reply (inr t) =
    let d = t.0 in
    let a = d.is.starts in let b = c.is.starts in
    let k = t.2 in
    let seats : d.seat ≡ c.seat = cc in
    let contents : w ≡ u.1 = cc in
    let names : u.0 ≡ Of c.seat (suc (puts_before events c.seat r)) = subst (λ z. u.0 ≡ Of z (suc (puts_before events z r))) seats t.3 in
    inl (last queue (Of c.seat (suc (puts_before events c.seat r)), w) u (pair u _ w (sym names) contents))
call_keeps opening events r c (Get p) queue u is reply (inr t) =
    let d = t.0 in
    let a = d.is.starts in let b = c.is.starts in
    let k = t.2 in
    absurd cc
call_keeps opening events r c (Get p) [] u is reply (inl h) = absurd h
call_keeps opening events r c (Get p) (front ∷ queue) u is reply (inl (inr h)) = inl h
call_keeps opening events r c (Get p) (front ∷ queue) u is reply (inl (inl e)) =
    let said : c.reply ≡ Got u.0 u.1 = subst (λ (z : PutName × List ℕ). c.reply ≡ Got z.0 z.1) e reply in
    inr (record {
      seat = c.seat;
      q = p;
      e = c.e;
      is = subst (λ z. IsCall events c.seat (Get p) r c.e z) said (subst (λ z. IsCall events c.seat z r c.e c.reply) is c.is);
    })

empty_front : (queue : List (PutName × List ℕ)) (q : ℕ) (u : PutName × List ℕ) → Nothing ≡ plain_reply queue (Get q) → ¬ StandsIn queue u
empty_front [] q u h s = s
empty_front (front ∷ queue) q u h s = absurd cc

nothing_first : (events : List Event) (s e seat q : ℕ) (u : PutName × List ℕ) (queue : List (PutName × List ℕ)) → IsCall events seat (Get q) s e Nothing
    → (r : ℕ) → r ≡ s → (c : IsEnded events r) → c.reply ≡ plain_reply queue c.call → ¬ StandsIn queue u
nothing_first events s e seat q u queue is r starts c reply =
    let same = one_reply events r e seat (Get q) Nothing (subst (λ z. IsCall events seat (Get q) z e Nothing) (sym starts) is) c in
    empty_front queue q u (sym same.1 ∙ reply ∙ ap (λ z. plain_reply queue z) same.0)

-- at a Nothing all that was in the queue or was put since has been got
none_left : (opening : List (List ℕ)) (events : List Event) (s e seat q : ℕ) → IsCall events seat (Get q) s e Nothing
    → (queue : List (PutName × List ℕ)) (order : List Member) → AnswersPlainly opening events queue order → Distinct order → StandsIn order (call_at s)
    → (u : PutName × List ℕ) → StandsIn queue u ⊎ IsPutBefore opening events order (call_at s) u → IsGotIn events order (call_at s) u
none_left opening events s e seat q is queue [] plain d h u given = absurd h
none_left opening events s e seat q is queue (token j ∷ order) plain d (inl same) u given = absurd cc
none_left opening events s e seat q is queue (token j ∷ order) plain d (inr h) u given =
    let next : List (PutName × List ℕ) = queue ++ (Opening j, plain.0) ∷ [] in
    let go = λ (w : StandsIn next u ⊎ IsPutBefore opening events order (call_at s) u).
    got_more events (token j) order (call_at s) u (none_left opening events s e seat q is next order plain.2 d.1 h u w) in
    elim given [
      | inl k ↦ go (inl (stays queue (Opening j, plain.0) u k))
      | inr p ↦ elim (first_put opening events (token j) order (call_at s) u p) [
        | inl t ↦ (let a = t.1 in let b = plain.1 in go (inl (last queue (Opening j, plain.0) u (pair u (Opening j) plain.0 (sym t.0) cc))))
        | inr b ↦ go (inr b)
      ]
    ]
none_left opening events s e seat q is queue (call_at r ∷ order) plain d (inl same) u given =
    let starts : r ≡ s = cc in
    let none = nothing_first events s e seat q u queue is r starts plain.0 plain.1 in
    elim given [
      | inl k ↦ absurd (none k)
      | inr p ↦ elim p.before [
        | inl w ↦ absurd (d.0 (subst (λ z. StandsIn order z) (sym same) w.1))
        | inr b ↦ absurd (d.0 (subst (λ z. StandsIn order z) (sym same) (behind_is_in order p.by (call_at s) b)))
      ]
    ]
none_left opening events s e seat q is queue (call_at r ∷ order) plain d (inr h) u given =
    let c = plain.0 in
    let next : List (PutName × List ℕ) = plain_after queue (Of c.seat (suc (puts_before events c.seat r))) c.call in
    let go = λ (w : StandsIn next u ⊎ IsPutBefore opening events order (call_at s) u).
    got_more events (call_at r) order (call_at s) u (none_left opening events s e seat q is next order plain.2 d.1 h u w) in
    let here : (StandsIn queue u ⊎ PutsThis opening events (call_at r) u) → IsGotIn events (call_at r ∷ order) (call_at s) u = λ w.
    elim (call_keeps opening events r c c.call queue u refl plain.1 w) [
      | inl k ↦ go (inl k)
      | inr g ↦ record { r = r; gets_it = g; before = inl (refl, h) }
    ] in
    elim given [
      | inl k ↦ here (inl k)
      | inr p ↦ elim (first_put opening events (call_at r) order (call_at s) u p) [ inl t ↦ here (inr t) | inr b ↦ go (inr b) ]
    ]

before_all : {X : Type 0} (xs : List X) (a b c : X) → Distinct xs → StandsBefore xs a b → StandsBefore xs b c → StandsBefore xs a c
before_all {X} [] a b c d h k = absurd h
before_all {X} (z ∷ zs) a b c d (inl w) (inl u) = inl (w.0, u.1)
before_all {X} (z ∷ zs) a b c d (inl w) (inr k) = inl (w.0, behind_is_in zs b c k)
before_all {X} (z ∷ zs) a b c d (inr h) (inl u) = absurd (d.0 (subst (λ y. StandsIn zs y) (sym u.0) (behind_is_in zs a b h)))
before_all {X} (z ∷ zs) a b c d (inr h) (inr k) = inr (before_all zs a b c d.1 h k)

-- the latest start of the members up to one
record Latest (order : List Member) (s : ℕ) : Type 0 where
  pub x : ℕ
  pub is_in : (x ≡ s) ⊎ StandsBefore order (call_at x) (call_at s)
  pub past : s ≤ x
  pub all : (r : ℕ) → StandsBefore order (call_at r) (call_at s) → r ≤ x

latest : (order : List Member) (s : ℕ) → Distinct order → StandsIn order (call_at s) → Latest order s
latest [] s d h = absurd h
latest (z ∷ zs) s d (inl same) = record {
  x = s;
  is_in = inl refl;
  past = omega arith;
  all = λ r k. elim k [
    | inl w ↦ absurd (d.0 (subst (λ y. StandsIn zs y) (sym same) w.1))
    | inr b ↦ absurd (d.0 (subst (λ y. StandsIn zs y) (sym same) (behind_is_in zs (call_at r) (call_at s) b)))
  ];
}
latest (token j ∷ zs) s d (inr h) =
    let l = latest zs s d.1 h in
    record {
      x = l.x;
      is_in = elim l.is_in [ inl e ↦ inl e | inr b ↦ inr (inr b) ];
      past = l.past;
      all = λ r k. elim k [ inl w ↦ (let q = w.0 in absurd cc) | inr b ↦ l.all r b ];
    }
latest (call_at t ∷ zs) s d (inr h) =
    let l = latest zs s d.1 h in
    elim (cases_lt l.x t) [
      | inl lt ↦ record {
        x = t;
        is_in = inr (inl (refl, h));
        past = (let p = l.past in omega arith);
        all = λ r k. elim k [ inl w ↦ (let q = w.0 in let same : t ≡ r = cc in omega arith) | inr b ↦ (let p = l.all r b in omega arith) ];
      }
      | inr le ↦ record {
        x = l.x;
        is_in = elim l.is_in [ inl e ↦ inl e | inr b ↦ inr (inr b) ];
        past = l.past;
        all = λ r k. elim k [ inl w ↦ (let q = w.0 in let same : t ≡ r = cc in omega arith) | inr b ↦ l.all r b ];
      }
    ]

-- a Start and an End stand at different positions
pub apart : (events : List Event) (x d seat k : ℕ) (call : Call) (reply : Reply) → slice_get events x ≡ Some (Start seat call) → slice_get events d ≡ Some (End k reply)
    → d < suc x → d < x
apart events x d seat k call reply a b lt = elim (cases_order d x) [
  | inl e ↦ (let c = subst (λ z. slice_get events z ≡ Some (End k reply)) e b in absurd cc)
  | inr w ↦ elim w [ inl l ↦ l | inr g ↦ absurd (omega arith) ]
]

record Right (opening : List (List ℕ)) (events : List Event) (q s e seat : ℕ) (order : List Member) (l : Latest order s) : Type 0 where
  pub o : IsOrderOf opening events q order
  pub is : IsCall events seat (Get q) s e Nothing
  pub here : StandsIn order (call_at s)
  pub there : StandsIn order (call_at l.x)

-- a put that is finished at the moment just after the latest start stands before the Nothing
finished_before : (opening : List (List ℕ)) (events : List Event) (q s e seat : ℕ) (order : List Member) (l : Latest order s)
    → Right opening events q s e seat order l → (name : PutName) → IsFinishedAt opening events q (suc l.x) name
    → (content : List ℕ) × IsPutBefore opening events order (call_at s) (name, content)
finished_before opening events q s e seat order l r (Opening j) fin =
    let m = r.o.all (token j) fin in (
      get_or opening j [],
      record {
        by = token j;
        puts_it = (refl, slice_get-get_or opening j [] fin.1);
        before = r.o.first j s m r.here;
      },
    )
finished_before opening events q s e seat order l r (Of k n) fin =
    let done = fin.2 in
    let m = r.o.all (call_at done.s) (record {
      ended = record { seat = k; call = Put q done.content; e = fin.0; reply = Done; is = done.call };
      of_queue = refl;
      not_spent = λ h. absurd cc;
    }) in
    let x = r.o.only (call_at l.x) r.there in
    let early : fin.0 < l.x = apart events l.x fin.0 x.ended.seat k x.ended.call Done x.ended.is.starts done.call.ends fin.1 in
    let b = r.o.real_time done.s l.x fin.0 k (Put q done.content) Done done.call early m r.there in (
      done.content,
      record {
        by = call_at done.s;
        puts_it = (record { seat = k; call = Put q done.content; e = fin.0; reply = Done; is = done.call }, q, refl, ap (λ z. Of k z) done.put.counted);
        before = elim l.is_in [
          | inl e ↦ subst (λ z. StandsBefore order (call_at done.s) (call_at z)) e b
          | inr w ↦ before_all order (call_at done.s) (call_at l.x) (call_at s) r.o.once b w
        ];
      },
    )

pub empty_from_orders : (opening : List (List ℕ)) (events : List Event) → IsOnce events → HasOrders opening events → IsEmptyRight opening events
empty_from_orders opening events once orders e s seat q is =
    let order = (orders q).0 in
    let o = (orders q).1 in
    let here = o.all (call_at s) (record {
      ended = record { seat = seat; call = Get q; e = e; reply = Nothing; is = is };
      of_queue = refl;
      not_spent = λ h. absurd cc;
    }) in
    let l = latest order s o.once here in
    let there : StandsIn order (call_at l.x) = elim l.is_in [
      | inl same ↦ subst (λ z. StandsIn order (call_at z)) (sym same) here
      | inr b ↦ front_is_in order (call_at l.x) (call_at s) b
    ] in
    let r : Right opening events q s e seat order l = record { o = o; is = is; here = here; there = there } in
    let x = o.only (call_at l.x) there in
    let started_at = (started events seat e s is.under_way_till).before in
    let within : l.x < e = elim (cases_order l.x e) [
      | inl same ↦ (let starts = x.ended.is.starts in let c = subst (λ z. slice_get events z ≡ Some (Start x.ended.seat x.ended.call)) same starts in let ends = is.ends in absurd cc)
      | inr w ↦ elim w [
        | inl lt ↦ lt
        | inr late ↦ elim l.is_in [
          | inl same ↦ absurd (omega arith)
          | inr b ↦ absurd (one_way order (call_at l.x) (call_at s) o.once b (o.real_time s l.x e seat (Get q) Nothing is late here there))
        ]
      ]
    ] in
    let got : (name : PutName) → IsFinishedAt opening events q (suc l.x) name → IsGotBefore events (suc l.x) name = λ name fin.
    let p = finished_before opening events q s e seat order l r name fin in
    let g = none_left opening events s e seat q is [] order o.plain o.once here (name, p.0) (inr p.1) in
    let low = l.all g.r g.before in
    record {
      s = g.r;
      e = g.gets_it.e;
      before = omega arith;
      get = record {
        seat = g.gets_it.seat;
        queue = g.gets_it.q;
        content = p.0;
        call = g.gets_it.is;
        first = λ d lt. once g.gets_it.e name d (record { seat = g.gets_it.seat; content = p.0; ends = g.gets_it.is.ends }) lt;
      };
    } in
    let past = l.past in (
      suc l.x,
      (omega arith),
      (omega arith),
      record {
        claimed = λ name fin. inl (got name fin);
        matched = record {
          partner = λ name h. absurd (h.1 (let g = got name h.0 in (g.e, names_from_get events name g.s g.e g.get)));
          into = λ name h. absurd (h.1 (let g = got name h.0 in (g.e, names_from_get events name g.s g.e g.get)));
          one_to_one = λ name other h k same. absurd (h.1 (let g = got name h.0 in (g.e, names_from_get events name g.s g.e g.get)));
        };
      },
    )
