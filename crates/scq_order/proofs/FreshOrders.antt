-- Where each queue has a one-thread order, the history is fresh. Plan: what is got was put by a member that stands before the get
-- (by induction along the order, with what the plain queue holds), so it did not start after the get's end
use Rattle.std.proofs.Common.{◌≡◌, ℕ, suc, ◌<◌, ◌⊎◌, inl, inr, List, [], ◌∷◌, ◌++◌, refl, sym, ap, ◌∙◌, subst}
use Rattle.std.specs.Prelude.{Some, slice_get}
use Rattle.std.proofs.lemmas.Bool.{cases_order}
use Rattle.scq_hist.specs.Exports.{under_way, puts_before, IsCall, IsPut, IsBegun, IsFresh, StandsIn, Distinct}
use Rattle.scq_order.specs.Exports.{plain_reply, plain_after, Member, token, call_at, IsEnded, AnswersPlainly, queue_of, StandsBefore, IsOrderOf, HasOrders}
use Rattle.scq_hist.specs.declared.events.Call.{Call}
use Rattle.scq_hist.specs.declared.events.Call.TheVariants.{Put, Get}
use Rattle.scq_hist.specs.declared.events.Event.{Event}
use Rattle.scq_hist.specs.declared.events.Event.TheVariants.{Start, End}
use Rattle.scq_hist.specs.declared.events.PutName.{PutName}
use Rattle.scq_hist.specs.declared.events.PutName.TheVariants.{Opening, Of}
use Rattle.scq_hist.specs.declared.events.Reply.{Reply}
use Rattle.scq_hist.specs.declared.events.Reply.TheVariants.{Got}
use Rattle.scq_hist.proofs.UnderWay.{one_end}

-- this member puts this value
abbrev pub PutsThis : List (List ℕ) → List Event → Member → PutName × List ℕ → Type 0
PutsThis opening events (token j) v = (v.0 ≡ Opening j) × (slice_get opening j ≡ Some v.1)
PutsThis opening events (call_at s) v =
    (c : IsEnded events s) × (queue : ℕ) × (c.call ≡ Put queue v.1) × (v.0 ≡ Of c.seat (suc (puts_before events c.seat s)))

-- a value is in the queue, or was put by one that stands before
pub record IsPutBefore (opening : List (List ℕ)) (events : List Event) (order : List Member) (x : Member) (v : PutName × List ℕ) : Type 0 where
  pub by : Member
  pub puts_it : PutsThis opening events by v
  pub before : StandsBefore order by x

pub pushed : {X : Type 0} (xs : List X) (x y : X) → StandsIn (xs ++ x ∷ []) y → StandsIn xs y ⊎ (x ≡ y)
pushed {X} [] x y (inl e) = inr e
pushed {X} [] x y (inr h) = absurd h
pushed {X} (z ∷ zs) x y (inl e) = inl (inl e)
pushed {X} (z ∷ zs) x y (inr h) = elim (pushed zs x y h) [ inl m ↦ inl (inr m) | inr e ↦ inr e ]

before_more : (opening : List (List ℕ)) (events : List Event) (z : Member) (order : List Member) (x : Member) (v : PutName × List ℕ)
    → IsPutBefore opening events order x v → IsPutBefore opening events (z ∷ order) x v
before_more opening events z order x v p = record { by = p.by; puts_it = p.puts_it; before = inr p.before }

-- the reply of the call that starts at s
pub one_reply : (events : List Event) (s e seat : ℕ) (call : Call) (reply : Reply) → IsCall events seat call s e reply → (c : IsEnded events s)
    → (c.call ≡ call) × (c.reply ≡ reply)
one_reply events s e seat call reply is c =
    let a = is.starts in let b = c.is.starts in
    let seats : c.seat ≡ seat = cc in
    let u = is.under_way_till in
    let w = subst (λ k. under_way events k c.e ≡ Some s) seats c.is.under_way_till in
    let x = is.ends in
    let y = subst (λ k. slice_get events c.e ≡ Some (End k c.reply)) seats c.is.ends in
    let ends = one_end events seat s c.e e c.reply reply w y u x in
    (cc, cc)

front_got : (queue : List (PutName × List ℕ)) (q : ℕ) (v : PutName × List ℕ) → Got v.0 v.1 ≡ plain_reply queue (Get q) → StandsIn queue v
front_got [] q v h = absurd cc
front_got (front ∷ queue) q v h =
    let a : front.0 ≡ v.0 = cc in
    let b : front.1 ≡ v.1 = cc in
    inl (subst (λ z. front ≡ (z, v.1)) a (subst (λ z. front ≡ (front.0, z)) b refl))

pub first_got : (events : List Event) (s e seat q : ℕ) (v : PutName × List ℕ) (queue : List (PutName × List ℕ)) → IsCall events seat (Get q) s e (Got v.0 v.1)
    → (r : ℕ) → r ≡ s → (c : IsEnded events r) → c.reply ≡ plain_reply queue c.call → StandsIn queue v
first_got events s e seat q v queue is r starts c reply =
    let same = one_reply events r e seat (Get q) (Got v.0 v.1) (subst (λ z. IsCall events seat (Get q) z e (Got v.0 v.1)) (sym starts) is) c in
    front_got queue q v (sym same.1 ∙ reply ∙ ap (λ z. plain_reply queue z) same.0)

-- what is in the queue after a call was there before, or the call puts it
call_puts : (opening : List (List ℕ)) (events : List Event) (r : ℕ) (c : IsEnded events r) (call : Call) (queue : List (PutName × List ℕ)) (v : PutName × List ℕ)
    → c.call ≡ call → StandsIn (plain_after queue (Of c.seat (suc (puts_before events c.seat r))) call) v
    → StandsIn queue v ⊎ PutsThis opening events (call_at r) v
call_puts opening events r c (Put p w) queue v is h = elim (pushed queue (Of c.seat (suc (puts_before events c.seat r)), w) v h) [
  | inl m ↦ inl m
  | inr e ↦ inr (c, p, (let x = ap (λ (z : PutName × List ℕ). z.1) e in cc), sym (ap (λ (z : PutName × List ℕ). z.0) e))
]
call_puts opening events r c (Get p) [] v is h = absurd h
call_puts opening events r c (Get p) (front ∷ queue) v is h = inl (inr h)

pub put_before : (opening : List (List ℕ)) (events : List Event) (s e seat q : ℕ) (v : PutName × List ℕ) → IsCall events seat (Get q) s e (Got v.0 v.1)
    → (queue : List (PutName × List ℕ)) (order : List Member) → AnswersPlainly opening events queue order → StandsIn order (call_at s)
    → StandsIn queue v ⊎ IsPutBefore opening events order (call_at s) v
put_before opening events s e seat q v is queue [] plain h = absurd h
put_before opening events s e seat q v is queue (token j ∷ order) plain (inl same) = absurd cc
put_before opening events s e seat q v is queue (token j ∷ order) plain (inr h) =
    elim (put_before opening events s e seat q v is (queue ++ (Opening j, plain.0) ∷ []) order plain.2 h) [
      | inl m ↦ elim (pushed queue (Opening j, plain.0) v m) [
        | inl k ↦ inl k
        | inr e ↦ inr (record {
          by = token j;
          puts_it = (sym (ap (λ (z : PutName × List ℕ). z.0) e), (let c = ap (λ (z : PutName × List ℕ). z.1) e in let p = plain.1 in cc));
          before = inl (refl, h);
        })
      ]
      | inr p ↦ inr (before_more opening events (token j) order (call_at s) v p)
    ]
put_before opening events s e seat q v is queue (call_at r ∷ order) plain (inl same) =
    let starts : r ≡ s = cc in
    inl (first_got events s e seat q v queue is r starts plain.0 plain.1)
put_before opening events s e seat q v is queue (call_at r ∷ order) plain (inr h) =
    let c = plain.0 in
    elim (put_before opening events s e seat q v is (plain_after queue (Of c.seat (suc (puts_before events c.seat r))) c.call) order plain.2 h) [
      | inl m ↦ elim (call_puts opening events r c c.call queue v refl m) [
        | inl k ↦ inl k
        | inr p ↦ inr (record { by = call_at r; puts_it = p; before = inl (refl, h) })
      ]
      | inr p ↦ inr (before_more opening events (call_at r) order (call_at s) v p)
    ]

-- no two stand before each other
pub behind_is_in : {X : Type 0} (xs : List X) (x y : X) → StandsBefore xs x y → StandsIn xs y
behind_is_in {X} [] x y h = absurd h
behind_is_in {X} (z ∷ zs) x y (inl w) = inr w.1
behind_is_in {X} (z ∷ zs) x y (inr h) = inr (behind_is_in zs x y h)

pub front_is_in : {X : Type 0} (xs : List X) (x y : X) → StandsBefore xs x y → StandsIn xs x
front_is_in {X} [] x y h = absurd h
front_is_in {X} (z ∷ zs) x y (inl w) = inl w.0
front_is_in {X} (z ∷ zs) x y (inr h) = inr (front_is_in zs x y h)

pub one_way : {X : Type 0} (xs : List X) (x y : X) → Distinct xs → StandsBefore xs x y → ¬ StandsBefore xs y x
one_way {X} [] x y d h k = absurd h
one_way {X} (z ∷ zs) x y d (inl w) (inl u) = d.0 (subst (λ a. StandsIn zs a) (sym w.0) u.1)
one_way {X} (z ∷ zs) x y d (inl w) (inr k) = d.0 (subst (λ a. StandsIn zs a) (sym w.0) (behind_is_in zs y x k))
one_way {X} (z ∷ zs) x y d (inr h) (inl u) = d.0 (subst (λ a. StandsIn zs a) (sym u.0) (behind_is_in zs x y h))
one_way {X} (z ∷ zs) x y d (inr h) (inr k) = one_way zs x y d.1 h k

begun : (opening : List (List ℕ)) (events : List Event) (q s e seat : ℕ) (name : PutName) (content : List ℕ) (order : List Member)
    → IsOrderOf opening events q order → IsCall events seat (Get q) s e (Got name content) → StandsIn order (call_at s)
    → (by : Member) → PutsThis opening events by (name, content) → StandsBefore order by (call_at s) → IsBegun opening events name q content e
begun opening events q s e seat (Opening i) content order o is here (token j) puts before =
    let m = o.only (token j) (front_is_in order (token j) (call_at s) before) in
    let p = puts.1 in let n = puts.0 in
    let same : i ≡ j = cc in
    (m.0, cc)
begun opening events q s e seat (Of k n) content order o is here (token j) puts before = let x = puts.0 in absurd cc
begun opening events q s e seat (Opening i) content order o is here (call_at r) puts before = let x = puts.3 in absurd cc
begun opening events q s e seat (Of k n) content order o is here (call_at r) puts before =
    let there = front_is_in order (call_at r) (call_at s) before in
    let m = o.only (call_at r) there in
    let c = puts.0 in
    let name = puts.3 in
    let seats : k ≡ c.seat = cc in
    let number : n ≡ suc (puts_before events c.seat r) = cc in
    let a = one_reply events r c.e c.seat c.call c.reply c.is m.ended in
    let of_queue : queue_of c.call ≡ q = subst (λ z. queue_of z ≡ q) a.0 m.of_queue in
    let call = puts.2 in
    let queues : puts.1 ≡ q = sym (ap queue_of call) ∙ of_queue in
    let starts = c.is.starts in
    let put : IsPut events k n q content r = record {
      starts = cc;
      counted = cc;
    } in
    let early : r < e = elim (cases_order r e) [
      | inl eq ↦ (let ends = is.ends in let here2 : slice_get events e ≡ Some (Start c.seat c.call) = subst (λ z. slice_get events z ≡ Some (Start c.seat c.call)) eq starts in absurd cc)
      | inr w ↦ elim w [
        | inl lt ↦ lt
        | inr late ↦ absurd (one_way order (call_at r) (call_at s) o.once before (o.real_time s r e seat (Get q) (Got (Of k n) content) is late here there))
      ]
    ] in
    (r, early, put)

pub fresh_from_orders : (opening : List (List ℕ)) (events : List Event) → HasOrders opening events → IsFresh opening events
fresh_from_orders opening events orders e s seat q name content is =
    let o = orders q in
    let here = o.1.all (call_at s) (record {
      ended = record { seat = seat; call = Get q; e = e; reply = Got name content; is = is };
      of_queue = refl;
      not_spent = λ h. absurd cc;
    }) in
    elim (put_before opening events s e seat q (name, content) is [] o.0 o.1.plain here) [
      | inl none ↦ absurd none
      | inr p ↦ begun opening events q s e seat name content o.0 o.1 is here p.by p.puts_it p.before
    ]
