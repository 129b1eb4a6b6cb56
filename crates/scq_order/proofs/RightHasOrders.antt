-- The members of a queue's run are its one-thread order: each call of the queue stands in it, and no
-- call stands after one that started after its end
use Rattle.std.proofs.Common.{◌≡◌, ℕ, suc, ◌<◌, ◌≤◌, ◌⊎◌, inl, inr, List, [], length, refl, sym, ap, ◌∙◌, subst, arith}
use Rattle.std.specs.Prelude.{Some, slice_get}
use Rattle.std.proofs.lemmas.Bool.{cases_lt}
use Rattle.std.proofs.lemmas.Option.{slice_get_within}
use Rattle.scq_hist.specs.Exports.{puts_before, IsCall, IsPut, IsGetOf, IsBegun, IsLawfulAt, IsAnswer, SuitsCall, Names, StandsIn}
use Rattle.scq_hist.specs.declared.events.Call.{Call}
use Rattle.scq_hist.specs.declared.events.Call.TheVariants.{Put, Get}
use Rattle.scq_hist.specs.declared.events.Event.{Event}
use Rattle.scq_hist.specs.declared.events.Event.TheVariants.{Start}
use Rattle.scq_hist.specs.declared.events.PutName.{PutName}
use Rattle.scq_hist.specs.declared.events.PutName.TheVariants.{Opening, Of}
use Rattle.scq_hist.specs.declared.events.Reply.{Reply}
use Rattle.scq_hist.specs.declared.events.Reply.TheVariants.{Done, Got, Nothing, Spent}
use Rattle.scq_hist.proofs.UnderWay.{started, same_call}
use Rattle.scq_hist.proofs.TallyLemmas.{one_get}
use Rattle.scq_order.specs.Exports.{Member, token, call_at, IsComplete, IsRight, IsMember, IsOrderOf, HasOrders, StandsBefore, queue_of}
use Rattle.scq_order.proofs.Values.{Value}
use Rattle.scq_order.proofs.Ops.{IsInstant, puts, gets, finds_none}
use Rattle.scq_order.proofs.AgreeValues.{IsGotWithin, NeverGot, PutSpan}
use Rattle.scq_order.proofs.QueueValues.{IsStored, IsPutBy, IsTakenBy, lasts}
use Rattle.scq_order.proofs.Collecting.{put_done, found_none, has_ended}
use Rattle.scq_order.proofs.RightOrders.{either}
use Rattle.scq_order.proofs.Members.{members, members_to, members_from, earlier, members_once, taking}
use Rattle.scq_order.proofs.Parts.{put_starts, lies_within, token_point, op_member}
use Rattle.scq_order.proofs.OrdersOfRight.{QueueRun, queue_run, one_op, answers}

-- a value's source stands in the order
source_in : (opening : List (List ℕ)) (events : List Event) (q : ℕ) (r : QueueRun opening events q) (v : Value) (m : Member)
    → StandsIn r.collected.values v → v.source ≡ m → StandsIn (members r.ops) m
source_in opening events q r v m h is =
    let w = r.value v h in
    let made : Some w.0.value.source ≡ Some m = ap Some (ap (λ (z : Value). z.source) w.2 ∙ is) in
    elim (cases_lt w.0.value.put_from w.0.value.got_till) [
      | inl lt ↦ members_to r.ops (puts w.0) m (w.3.put (λ i. omega arith)) made
      | inr le ↦ members_to r.ops (finds_none w.0) m (w.3.instant le) made
    ]

-- and its taker
taker_in : (opening : List (List ℕ)) (events : List Event) (q : ℕ) (r : QueueRun opening events q) (v : Value) (s : ℕ) → IsRight opening events
    → StandsIn r.collected.values v → IsStored opening events q v → v.taker ≡ Some s → StandsIn (members r.ops) (call_at s)
taker_in opening events q r v s right h t is =
    let w = r.value v h in
    let l = lasts opening events q v right t in
    let made : taking w.0.value.taker ≡ Some (call_at s) = ap (λ (z : Value). taking z.taker) w.2 ∙ ap taking is in
    members_to r.ops (gets w.0) (call_at s)
    (w.3.got (λ i. let late = subst (λ z. IsInstant z) w.2 i in omega arith)) made

-- the name of a stored value
name_is : (opening : List (List ℕ)) (events : List Event) (q : ℕ) (v : Value) (name : PutName) (a b : ℕ) (span : PutSpan opening events q name a b)
    → IsPutBy opening events q name a b span v → name ≡ v.entry.0
name_is opening events q v (Opening j) a b span by = sym (ap (λ (z : PutName × List ℕ). z.0) by.3)
name_is opening events q v (Of k n) a b span by = sym (ap (λ (z : PutName × List ℕ). z.0) by.1)

-- who got a value takes it
taken_by_get : (opening : List (List ℕ)) (events : List Event) (q : ℕ) (v : Value) (s e seat : ℕ) (name : PutName) (content : List ℕ)
    → IsRight opening events → IsStored opening events q v → v.entry.0 ≡ name → IsCall events seat (Get q) s e (Got name content) → v.taker ≡ Some s
taken_by_get opening events q v s e seat name content right t same is =
    by_get t.spans.got t.taken_by (name_is opening events q v t.name t.a t.b t.spans.put t.put_by ∙ same)
  where
    names : Names events e name
    names = record { seat = seat; content = content; ends = is.ends }

    get : IsGetOf events name s e
    get = record { seat = seat; queue = q; content = content; call = is; first = λ d lt. right.aspects.once e name d names lt }

    by_get : (got : IsGotWithin opening events t.name t.c t.d ⊎ NeverGot opening events t.name t.c t.d) → IsTakenBy opening events t.name t.c t.d got v
        → t.name ≡ name → v.taker ≡ Some s
    by_get (inl w) by is_name =
        let that = subst (λ z. IsGetOf events z w.s w.e) is_name w.get in
        by ∙ ap Some (one_get events name w.s s w.e e that get)
    by_get (inr n) by is_name = absurd (n.none (e, subst (λ z. Names events e z) (sym is_name) names))

-- the value of a put that a Got names
record NamedValue (opening : List (List ℕ)) (events : List Event) (q : ℕ) (r : QueueRun opening events q) (name : PutName) : Type 0 where
  pub value : Value
  pub is_in : StandsIn r.collected.values value
  pub stored : IsStored opening events q value
  pub named : value.entry.0 ≡ name

named_token : (opening : List (List ℕ)) (events : List Event) (q : ℕ) (r : QueueRun opening events q) (j : ℕ) → q ≡ 0 → j < length opening
    → NamedValue opening events q r (Opening j)
named_token opening events q r j free within =
    let w = r.collected.all (token j) (free, within) in
    elim (r.collected.each w.0 w.1) [
      | inl t ↦ record { value = w.0; is_in = w.1; stored = t; named = token_name w.0 t.name t.a t.b t.spans.put t.put_by w.2 }
      | inr n ↦ (let a = n.source in let b = w.2 in absurd cc)
    ]
  where
    token_name : (v : Value) (name : PutName) (a b : ℕ) (span : PutSpan opening events q name a b) → IsPutBy opening events q name a b span v
        → v.source ≡ token j → v.entry.0 ≡ Opening j
    token_name v (Opening i) a b span by is =
        let x = by.0 in let same : i ≡ j = cc in ap (λ (z : PutName × List ℕ). z.0) by.3 ∙ ap Opening same
    token_name v (Of k n) a b span by is = let x = by.0 in absurd cc

named_put : (opening : List (List ℕ)) (events : List Event) (q : ℕ) (r : QueueRun opening events q) (k n s d : ℕ) (content : List ℕ)
    → IsPut events k n q content s → IsCall events k (Put q content) s d Done → NamedValue opening events q r (Of k n)
named_put opening events q r k n s d content put call =
    let lt = slice_get_within events s (Start k (Put q content)) put.starts in
    let w = r.collected.all (call_at s) (lt, put_done k d content call) in
    elim (r.collected.each w.0 w.1) [
      | inl t ↦ (
          let p = put_starts opening events q w.0 s t w.2 in
          let x = p.put.starts in let y = put.starts in
          let seats : p.seat ≡ k = cc in
          let numbers : p.number ≡ n = p.put.counted ∙ ap (λ z. suc (puts_before events z s)) seats ∙ sym put.counted in
          record {
            value = w.0;
            is_in = w.1;
            stored = t;
            named = ap (λ (z : PutName × List ℕ). z.0) p.entry ∙ ap (λ z. Of z p.number) seats ∙ ap (λ z. Of k z) numbers;
          })
      | inr o ↦ (
          let a = o.source in let b = w.2 in
          let starts : o.s ≡ s = cc in
          let x = subst (λ i. slice_get events i ≡ Some (Start o.seat (Get q))) starts o.call.starts in
          let y = put.starts in absurd cc)
    ]

named : (opening : List (List ℕ)) (events : List Event) (q : ℕ) (r : QueueRun opening events q) (s e seat : ℕ) (name : PutName) (content : List ℕ)
    → IsRight opening events → IsComplete events → IsCall events seat (Get q) s e (Got name content) → IsBegun opening events name q content e
    → NamedValue opening events q r name
named opening events q r s e seat (Opening j) content right complete is begun =
    named_token opening events q r j begun.0 (slice_get_within opening j content begun.1)
named opening events q r s e seat (Of k n) content right complete is begun =
    let end = has_ended events k begun.0 (Put q content) right.aspects.lawful complete begun.2.starts in
    ended_so end.e end.reply end.is end.suits
  where
    ended_so : (d : ℕ) (reply : Reply) → IsCall events k (Put q content) begun.0 d reply → SuitsCall (Put q content) reply
        → NamedValue opening events q r (Of k n)
    ended_so d Done call suits = named_put opening events q r k n begun.0 d content begun.2 call
    ended_so d Spent call suits = absurd (right.accepted e k n d begun.0 q content
        (record { seat = seat; content = content; ends = is.ends }) begun.2.counted call)
    ended_so d Nothing call suits = absurd suits
    ended_so d (Got other w) call suits = absurd suits

-- each call of the queue that wasn't refused stands in the order
call_in : (opening : List (List ℕ)) (events : List Event) (q : ℕ) (r : QueueRun opening events q) (s e seat : ℕ) (call : Call) (reply : Reply)
    → IsRight opening events → IsComplete events → IsCall events seat call s e reply → SuitsCall call reply → queue_of call ≡ q → ¬ (reply ≡ Spent)
    → StandsIn (members r.ops) (call_at s)
call_in opening events q r s e seat (Put p w) Done right complete is suits of ns =
    let it = subst (λ z. IsCall events seat (Put z w) s e Done) of is in
    let v = r.collected.all (call_at s) (slice_get_within events s _ is.starts, put_done seat e w it) in
    source_in opening events q r v.0 (call_at s) v.1 v.2
call_in opening events q r s e seat (Put p w) Spent right complete is suits of ns = absurd (ns refl)
call_in opening events q r s e seat (Put p w) Nothing right complete is suits of ns = absurd suits
call_in opening events q r s e seat (Put p w) (Got name x) right complete is suits of ns = absurd suits
call_in opening events q r s e seat (Get p) Done right complete is suits of ns = absurd suits
call_in opening events q r s e seat (Get p) Spent right complete is suits of ns = absurd (ns refl)
call_in opening events q r s e seat (Get p) Nothing right complete is suits of ns =
    let it = subst (λ z. IsCall events seat (Get z) s e Nothing) of is in
    let v = r.collected.all (call_at s) (slice_get_within events s _ is.starts, found_none seat e it) in
    source_in opening events q r v.0 (call_at s) v.1 v.2
call_in opening events q r s e seat (Get p) (Got name x) right complete is suits of ns =
    let it = subst (λ z. IsCall events seat (Get z) s e (Got name x)) of is in
    let v = named opening events q r s e seat name x right complete it (right.aspects.fresh e s seat q name x it) in
    taker_in opening events q r v.value s right v.is_in v.stored
    (taken_by_get opening events q v.value s e seat name x right v.stored v.named it)

member_in : (opening : List (List ℕ)) (events : List Event) (q : ℕ) (r : QueueRun opening events q) (m : Member) → IsRight opening events → IsComplete events
    → IsMember opening events q m → StandsIn (members r.ops) m
member_in opening events q r (token j) right complete h =
    let v = r.collected.all (token j) h in source_in opening events q r v.0 (token j) v.1 v.2
member_in opening events q r (call_at s) right complete h =
    let c = h.ended in
    let a : IsAnswer events c.seat c.e c.reply = subst (λ z. IsLawfulAt events c.e z) c.is.ends (right.aspects.lawful c.e) in
    let same = same_call events c.seat c.seat s a.s c.e c.call a.call c.reply c.reply c.is a.is_call in
    call_in opening events q r s c.e c.seat c.call c.reply right complete c.is (subst (λ z. SuitsCall z c.reply) (sym same.calls) a.suits) h.of_queue h.not_spent

-- a call that stands before another started no later than that ended
in_time : (opening : List (List ℕ)) (events : List Event) (q : ℕ) (r : QueueRun opening events q) (a s e seat : ℕ) (call : Call) (reply : Reply)
    → IsRight opening events → IsCall events seat call s e reply → StandsBefore (members r.ops) (call_at a) (call_at s) → a ≤ e
in_time opening events q r a s e seat call reply right is before =
    let t = earlier 0 r.ops (call_at a) (call_at s) r.ascends before in
    let one = op_member opening events q r.ps t.one (call_at a) right (r.part t.one t.one_in) t.one_makes in
    let low = lies_within opening events q r.ps t.one a one.ended.e one.ended.seat one.ended.call one.ended.reply right (r.part t.one t.one_in) t.one_makes one.ended.is in
    let high = lies_within opening events q r.ps t.other s e seat call reply right (r.part t.other t.other_in) t.other_makes is in
    let x = low.low in let y = high.high in let z = t.points in omega arith

-- no call stands before a token
token_first : (opening : List (List ℕ)) (events : List Event) (q : ℕ) (r : QueueRun opening events q) (j s : ℕ) → IsRight opening events
    → StandsBefore (members r.ops) (call_at s) (token j) → ⊥
token_first opening events q r j s right before =
    let t = earlier 0 r.ops (call_at s) (token j) r.ascends before in
    let one = op_member opening events q r.ps t.one (call_at s) right (r.part t.one t.one_in) t.one_makes in
    let low = lies_within opening events q r.ps t.one s one.ended.e one.ended.seat one.ended.call one.ended.reply right (r.part t.one t.one_in) t.one_makes one.ended.is in
    let high = token_point opening events q r.ps t.other j (r.part t.other t.other_in) t.other_makes in
    let x = low.low in let y = high.0 in let w = high.1 in let z = t.points in omega arith

tokens_ascend : (opening : List (List ℕ)) (events : List Event) (q : ℕ) (r : QueueRun opening events q) (i j : ℕ)
    → StandsBefore (members r.ops) (token j) (token i) → j ≤ i
tokens_ascend opening events q r i j before =
    let t = earlier 0 r.ops (token j) (token i) r.ascends before in
    let low = token_point opening events q r.ps t.one j (r.part t.one t.one_in) t.one_makes in
    let high = token_point opening events q r.ps t.other i (r.part t.other t.other_in) t.other_makes in
    let x = low.0 in let y = high.0 in let z = t.points in omega arith

is_order_of : (opening : List (List ℕ)) (events : List Event) (q : ℕ) (r : QueueRun opening events q) → IsRight opening events → IsComplete events
    → IsOrderOf opening events q (members r.ops)
is_order_of opening events q r right complete = record {
  all = λ m h. member_in opening events q r m right complete h;
  only = λ m h. let t = members_from r.ops m h in op_member opening events q r.ps t.op m right (r.part t.op t.is_in) t.makes;
  once = members_once r.ops r.once (λ o p m h k is that. one_op opening events q r.ps o p m right r.one (r.part o h) (r.part p k) is that);
  first = λ j s h k. elim (either (members r.ops) (token j) (call_at s) h k) [
    | inl e ↦ absurd cc
    | inr w ↦ elim w [ inl b ↦ b | inr b ↦ absurd (token_first opening events q r j s right b) ]
  ];
  ascend = λ i j lt h k. elim (either (members r.ops) (token i) (token j) h k) [
    | inl e ↦ (let same : i ≡ j = cc in absurd (omega arith))
    | inr w ↦ elim w [ inl b ↦ b | inr b ↦ (let le = tokens_ascend opening events q r i j b in absurd (omega arith)) ]
  ];
  real_time = λ s a e seat call reply is lt h k. elim (either (members r.ops) (call_at s) (call_at a) h k) [
    | inl same ↦ (
        let one : s ≡ a = cc in
        let before = (started events seat e s is.under_way_till).before in absurd (omega arith))
    | inr w ↦ elim w [ inl b ↦ b | inr b ↦ (let le = in_time opening events q r a s e seat call reply right is b in absurd (omega arith)) ]
  ];
  plain = answers opening events q r.ps 0 [] r.ops right r.ascends r.follows r.part;
}

pub orders_from_right : (opening : List (List ℕ)) (events : List Event) → IsComplete events → IsRight opening events → HasOrders opening events
orders_from_right opening events complete right q =
    let r = queue_run opening events q right complete in (members r.ops, is_order_of opening events q r right complete)
