-- Each queue of a right, complete history has a one-thread order. Plan: the queue's values are fair, so they have a one-thread run;
-- its members are the order. Points lie within the calls and ascend, so real time is kept
use Rattle.std.proofs.Common.{◌≡◌, ℕ, suc, ◌≤◌, ◌⊎◌, inl, inr, List, [], ◌∷◌, ◌++◌, length, refl, sym, ap, ◌∙◌, subst, arith}
use Rattle.std.specs.Prelude.{Option, Some, None}
use Rattle.std.proofs.lemmas.Option.{slice_get_within}
use Rattle.scq_hist.specs.Exports.{puts_before, IsCall, IsPut, StandsIn, Distinct}
use Rattle.scq_hist.specs.declared.events.Call.TheVariants.{Put, Get}
use Rattle.scq_hist.specs.declared.events.Event.{Event}
use Rattle.scq_hist.specs.declared.events.Event.TheVariants.{End}
use Rattle.scq_hist.specs.declared.events.PutName.{PutName}
use Rattle.scq_hist.specs.declared.events.PutName.TheVariants.{Opening, Of}
use Rattle.scq_hist.specs.declared.events.Reply.TheVariants.{Done, Got, Nothing}
use Rattle.scq_hist.proofs.Puts.{one_start}
use Rattle.scq_order.specs.Exports.{Member, token, call_at, IsComplete, IsRight, AnswersPlainly}
use Rattle.scq_order.proofs.Values.{Value}
use Rattle.scq_order.proofs.Ops.{Pointed, IsPoint, points, IsInstant, Op, puts, gets, finds_none, Follows, Ascends, Happens, IsOpOf}
use Rattle.scq_order.proofs.OneThread.{one_thread, points_from, points_to, one_point}
use Rattle.scq_order.proofs.AgreeValues.{event_number, PutSpan}
use Rattle.scq_order.proofs.QueueValues.{IsStored, IsNone, IsValue, IsPutBy, lasts, are_fair}
use Rattle.scq_order.proofs.Collecting.{Collected, values_up_to}
use Rattle.scq_order.proofs.FreshOrders.{one_reply}
use Rattle.scq_order.proofs.Members.{taking, member_of, with_first, members}
use Rattle.scq_order.proofs.Parts.{IsPart, put_starts, put_by_token, get_starts, not_taken, put_below, taker_of, no_taker}

-- the run of a queue's values
pub record QueueRun (opening : List (List ℕ)) (events : List Event) (q : ℕ) : Type 0 where
  pub collected : Collected opening events q (length opening) (length events)
  pub ps : List Pointed
  pub ops : List Op
  pub ascends : Ascends 0 ops
  pub follows : Follows [] ops
  pub once : Distinct ops
  pub part : (op : Op) → StandsIn ops op → IsPart opening events q ps op
  pub value : (v : Value) → StandsIn collected.values v → (x : Pointed) × StandsIn ps x × (x.value ≡ v) × Happens ops x
  pub one : (x y : Pointed) → StandsIn ps x → StandsIn ps y → x.value.source ≡ y.value.source → x ≡ y

instant_none : (opening : List (List ℕ)) (events : List Event) (q : ℕ) (v : Value) → IsNone opening events q v → IsInstant v
instant_none opening events q v n = let a = n.got_till in let b = n.put_from in omega arith

pub queue_run : (opening : List (List ℕ)) (events : List Event) (q : ℕ) → IsRight opening events → IsComplete events → QueueRun opening events q
queue_run opening events q right complete =
    let c = values_up_to opening events q (length events) right complete in
    let o = one_thread c.values c.distinct (are_fair opening events q c.values right complete c.each) in
    let r = o.is_run in
    let of : (x : Pointed) → StandsIn (points 0 0 o.order) x → StandsIn c.values x.value =
    λ x h. o.is_order.from x.value (points_from 0 0 o.order x h) in
    record {
      collected = c;
      ps = points 0 0 o.order;
      ops = o.ops;
      ascends = r.ascends;
      follows = r.follows;
      once = r.once;
      part = λ op h. part_of opening events q (points 0 0 o.order) right o.point (λ x k. c.each x.value (of x k)) op (r.only op h);
      value = λ v h. (
          let p = points_to 0 0 o.order v (o.is_order.to v h) in
          (p.0, p.1, p.2, r.happens p.0 p.1));
      one = λ x y h k e. one_point 0 0 o.order x y o.is_order.distinct h k (c.one x.value y.value (of x h) (of y k) e);
    }
  where
    part_of : (opening : List (List ℕ)) (events : List Event) (q : ℕ) (ps : List Pointed) → IsRight opening events
        → ((x : Pointed) → StandsIn ps x → IsPoint x) → ((x : Pointed) → StandsIn ps x → IsValue opening events q x.value) → (op : Op) → IsOpOf [] ps op
        → IsPart opening events q ps op
    part_of opening events q ps right point value (puts x) h = (
      h.0,
      point x h.0,
      elim (value x h.0) [
        | inl s ↦ s
        | inr n ↦ absurd (h.1 (instant_none opening events q x.value n))
      ],
    )
    part_of opening events q ps right point value (gets x) (inl h) = absurd h
    part_of opening events q ps right point value (gets x) (inr h) = (
      h.0,
      point x h.0,
      elim (value x h.0) [
        | inl s ↦ s
        | inr n ↦ absurd (h.1 (instant_none opening events q x.value n))
      ],
    )
    part_of opening events q ps right point value (finds_none x) h = (
      h.0,
      point x h.0,
      elim (value x h.0) [
        | inl s ↦ (let l = lasts opening events q x.value right s in let i = h.1 in absurd (omega arith))
        | inr n ↦ n
      ],
    )

-- two values of one name have one source
same_source : (opening : List (List ℕ)) (events : List Event) (q : ℕ) (u v : Value) → IsStored opening events q u → IsStored opening events q v
    → u.entry.0 ≡ v.entry.0 → u.source ≡ v.source
same_source opening events q u v s t e = by_names s.name t.name s.a s.b t.a t.b s.spans.put t.spans.put s.put_by t.put_by
  where
    by_names : (m n : PutName) (a b c d : ℕ) (su : PutSpan opening events q m a b) (sv : PutSpan opening events q n c d)
        → IsPutBy opening events q m a b su u → IsPutBy opening events q n c d sv v → u.source ≡ v.source
    by_names (Opening i) (Opening j) a b c d su sv x y =
        let p = ap (λ (z : PutName × List ℕ). z.0) x.3 in let r = ap (λ (z : PutName × List ℕ). z.0) y.3 in
        let same : i ≡ j = cc in x.0 ∙ ap token same ∙ sym y.0
    by_names (Opening i) (Of k n) a b c d su sv x y =
        let p = ap (λ (z : PutName × List ℕ). z.0) x.3 in let r = ap (λ (z : PutName × List ℕ). z.0) y.1 in absurd cc
    by_names (Of k n) (Opening j) a b c d su sv x y =
        let p = ap (λ (z : PutName × List ℕ). z.0) x.1 in let r = ap (λ (z : PutName × List ℕ). z.0) y.3 in absurd cc
    by_names (Of k n) (Of l o) a b c d su sv x y =
        let p = ap (λ (z : PutName × List ℕ). z.0) x.1 in let r = ap (λ (z : PutName × List ℕ). z.0) y.1 in
        let seats : k ≡ l = cc in let numbers : n ≡ o = cc in
        let that = subst (λ i. IsPut events i n q su.1.content su.1.s) seats (su.1.put) in
        let other = subst (λ i. IsPut events l i q su.1.content su.1.s) numbers that in
        let starts = one_start events l o q q su.1.s sv.1.s su.1.content sv.1.content other sv.1.put in
        x.0 ∙ ap call_at starts ∙ sym y.0

-- no put, no taken get and no get that found nothing make the same member
put_not_none : (opening : List (List ℕ)) (events : List Event) (q : ℕ) (x y : Pointed) → IsRight opening events → IsStored opening events q x.value
    → IsNone opening events q y.value → ¬ (x ≡ y)
put_not_none opening events q x y right stored none same =
    let s = subst (λ (z : Pointed). IsStored opening events q z.value) same stored in
    let l = lasts opening events q y.value right s in let i = instant_none opening events q y.value none in omega arith

put_not_get : (opening : List (List ℕ)) (events : List Event) (q : ℕ) (u v : Value) (m : Member) → IsRight opening events → IsStored opening events q u
    → IsStored opening events q v → u.source ≡ m → ¬ (taking v.taker ≡ Some m)
put_not_get opening events q u v (token j) right a b is that = no_taker v.taker j that
put_not_get opening events q u v (call_at s) right a b is that =
    let p = put_starts opening events q u s a is in
    let g = get_starts opening events q v s right b (taker_of v.taker s that) in
    let c = p.call.starts in let d = g.call.starts in absurd cc

get_not_none : (opening : List (List ℕ)) (events : List Event) (q : ℕ) (u v : Value) (m : Member) → IsRight opening events → IsStored opening events q u
    → IsNone opening events q v → taking u.taker ≡ Some m → ¬ (v.source ≡ m)
get_not_none opening events q u v (token j) right a n is that = no_taker u.taker j is
get_not_none opening events q u v (call_at s) right a n is that =
    let g = get_starts opening events q u s right a (taker_of u.taker s is) in
    let t = n.source in
    let starts : n.s ≡ s = cc in
    let there = subst (λ i. IsCall events n.seat (Get q) i n.e Nothing) starts n.call in
    let same = one_reply events s n.e n.seat (Get q) Nothing there
    (record { seat = g.seat; call = Get q; e = g.e; reply = Got u.entry.0 u.entry.1; is = g.call }) in
    let z = same.1 in absurd cc

-- two that the same call takes have one source
same_taker : (opening : List (List ℕ)) (events : List Event) (q : ℕ) (u v : Value) (m : Member) → IsRight opening events → IsStored opening events q u
    → IsStored opening events q v → taking u.taker ≡ Some m → taking v.taker ≡ Some m → u.source ≡ v.source
same_taker opening events q u v (token j) right a b is that = absurd (no_taker u.taker j is)
same_taker opening events q u v (call_at s) right a b is that =
    let g = get_starts opening events q u s right a (taker_of u.taker s is) in
    let h = get_starts opening events q v s right b (taker_of v.taker s that) in
    let same = one_reply events s g.e g.seat (Get q) (Got u.entry.0 u.entry.1) g.call
    (record { seat = h.seat; call = Get q; e = h.e; reply = Got v.entry.0 v.entry.1; is = h.call }) in
    let z = same.1 in
    let names : u.entry.0 ≡ v.entry.0 = cc in
    same_source opening events q u v a b names

-- no two ops make the same member
pub one_op : (opening : List (List ℕ)) (events : List Event) (q : ℕ) (ps : List Pointed) (o r : Op) (m : Member) → IsRight opening events
    → ((x y : Pointed) → StandsIn ps x → StandsIn ps y → x.value.source ≡ y.value.source → x ≡ y)
    → IsPart opening events q ps o → IsPart opening events q ps r → member_of o ≡ Some m → member_of r ≡ Some m → o ≡ r
one_op opening events q ps (puts x) (puts y) m right one a b is that = ap puts (one x y a.0 b.0 cc)
one_op opening events q ps (puts x) (gets y) m right one a b is that = absurd (put_not_get opening events q x.value y.value m right a.2 b.2 (cc) that)
one_op opening events q ps (puts x) (finds_none y) m right one a b is that =
    absurd (put_not_none opening events q x y right a.2 b.2 (one x y a.0 b.0 cc))
one_op opening events q ps (gets x) (puts y) m right one a b is that = absurd (put_not_get opening events q y.value x.value m right b.2 a.2 (cc) is)
one_op opening events q ps (gets x) (gets y) m right one a b is that =
    ap gets (one x y a.0 b.0 (same_taker opening events q x.value y.value m right a.2 b.2 is that))
one_op opening events q ps (gets x) (finds_none y) m right one a b is that =
    absurd (get_not_none opening events q x.value y.value m right a.2 b.2 is cc)
one_op opening events q ps (finds_none x) (puts y) m right one a b is that =
    absurd (put_not_none opening events q y x right b.2 a.2 (one y x b.0 a.0 cc))
one_op opening events q ps (finds_none x) (gets y) m right one a b is that =
    absurd (get_not_none opening events q y.value x.value m right b.2 a.2 that cc)
one_op opening events q ps (finds_none x) (finds_none y) m right one a b is that = ap finds_none (one x y a.0 b.0 cc)

-- behind a point past all nothing has a member
no_members : (opening : List (List ℕ)) (events : List Event) (q : ℕ) (ps : List Pointed) (p : ℕ) (ops : List Op) → IsRight opening events → Ascends p ops
    → event_number opening (length events) ≤ p → ((op : Op) → StandsIn ops op → IsPart opening events q ps op) → members ops ≡ []
no_members opening events q ps p [] right a late part = refl
no_members opening events q ps p (puts x ∷ ops) right a late part =
    let y = part (puts x) (inl refl) in
    let l = put_below opening events q x.value y.2 in let h = y.1.put_high in let z = a.0 in absurd (omega arith)
no_members opening events q ps p (finds_none x ∷ ops) right a late part =
    let y = part (finds_none x) (inl refl) in
    let n = y.2 in let h = y.1.put_high in let z = a.0 in let m = n.high in let t = n.put_till in
    let lt = slice_get_within events n.e (End n.seat Nothing) n.call.ends in absurd (omega arith)
no_members opening events q ps p (gets x ∷ ops) right a late part =
    let y = part (gets x) (inl refl) in
    let z = a.0 in
    let rest = no_members opening events q ps x.got_at ops right a.1 (omega arith) (λ op h. part op (inr h)) in
    elim (none_or x.value.taker) [
      | inl e ↦ subst (λ t. with_first (taking t) (members ops) ≡ []) (sym e) rest
      | inr s ↦ (
          let g = get_starts opening events q x.value s.0 right y.2 s.1 in
          let lt = slice_get_within events g.e _ g.call.ends in
          let h = y.1.got_high in let t = g.high in absurd (omega arith))
    ]
  where
    none_or : (taker : Option ℕ) → (taker ≡ None) ⊎ ((s : ℕ) × (taker ≡ Some s))
    none_or None = inl refl
    none_or (Some s) = inr (s, refl)

abbrev entries : List Pointed → List (PutName × List ℕ)
entries [] = []
entries (x ∷ xs) = x.value.entry ∷ entries xs

entries_push : (xs : List Pointed) (x : Pointed) → entries (xs ++ x ∷ []) ≡ entries xs ++ x.value.entry ∷ []
entries_push [] x = refl
entries_push (y ∷ xs) x = ap (λ z. y.value.entry ∷ z) (entries_push xs x)

-- a put is answered plainly
answers_put : (opening : List (List ℕ)) (events : List Event) (q : ℕ) (v : Value) (m : Member) (queue : List (PutName × List ℕ)) (rest : List Member)
    → IsStored opening events q v → v.source ≡ m → AnswersPlainly opening events (queue ++ v.entry ∷ []) rest
    → AnswersPlainly opening events queue (m ∷ rest)
answers_put opening events q v (token j) queue rest s is plain =
    let p = put_by_token opening events q v j s is in
    (p.content, p.there, subst (λ z. AnswersPlainly opening events (queue ++ z ∷ []) rest) p.entry plain)
answers_put opening events q v (call_at i) queue rest s is plain =
    let p = put_starts opening events q v i s is in
    let entry : v.entry ≡ (Of p.seat (suc (puts_before events p.seat i)), p.content) =
    p.entry ∙ ap (λ z. (Of p.seat z, p.content)) p.put.counted in (
      record { seat = p.seat; call = Put q p.content; e = p.e; reply = Done; is = p.call },
      refl,
      subst (λ z. AnswersPlainly opening events (queue ++ z ∷ []) rest) entry plain,
    )

-- the members answer as a plain queue does
pub answers : (opening : List (List ℕ)) (events : List Event) (q : ℕ) (ps : List Pointed) (p : ℕ) (queue : List Pointed) (ops : List Op) → IsRight opening events
    → Ascends p ops → Follows queue ops → ((op : Op) → StandsIn ops op → IsPart opening events q ps op)
    → AnswersPlainly opening events (entries queue) (members ops)
answers opening events q ps p queue [] right a f part = tt
answers opening events q ps p queue (puts x ∷ ops) right a f part =
    let rest = answers opening events q ps x.put_at (queue ++ x ∷ []) ops right a.1 f (λ op h. part op (inr h)) in
    answers_put opening events q x.value x.value.source (entries queue) (members ops) (part (puts x) (inl refl)).2 refl
    (subst (λ z. AnswersPlainly opening events z (members ops)) (entries_push queue x) rest)
answers opening events q ps p queue (finds_none x ∷ ops) right a f part =
    let n = (part (finds_none x) (inl refl)).2 in
    let rest = answers opening events q ps x.put_at [] ops right a.1 f.1 (λ op h. part op (inr h)) in
    let empty : entries queue ≡ [] = ap entries f.0 in
    subst (λ z. AnswersPlainly opening events z (members (finds_none x ∷ ops))) (sym empty)
    (subst (λ z. AnswersPlainly opening events [] (z ∷ members ops)) (sym n.source)
    (record { seat = n.seat; call = Get q; e = n.e; reply = Nothing; is = n.call }, refl, rest))
answers opening events q ps p queue (gets x ∷ ops) right a f part =
    let y = part (gets x) (inl refl) in
    let more : (op : Op) → StandsIn ops op → IsPart opening events q ps op = λ op h. part op (inr h) in
    let rest = answers opening events q ps x.got_at f.0 ops right a.1 f.2 more in
    subst (λ z. AnswersPlainly opening events (entries z) (members (gets x ∷ ops))) (sym f.1) (taken x.value.taker refl y rest more)
  where
    taken : (taker : Option ℕ) → x.value.taker ≡ taker → IsPart opening events q ps (gets x) → AnswersPlainly opening events (entries f.0) (members ops)
        → ((op : Op) → StandsIn ops op → IsPart opening events q ps op)
        → AnswersPlainly opening events (x.value.entry ∷ entries f.0) (members (gets x ∷ ops))
    taken None e y rest more =
        let late = not_taken opening events q x.value y.2 e in
        let low = y.1.got_low in
        let free = no_members opening events q ps x.got_at ops right a.1 (omega arith) more in
        subst (λ t. AnswersPlainly opening events (x.value.entry ∷ entries f.0) (with_first (taking t) (members ops))) (sym e)
        (subst (λ z. AnswersPlainly opening events (x.value.entry ∷ entries f.0) z) (sym free) tt)
    taken (Some s) e y rest more =
        let g = get_starts opening events q x.value s right y.2 e in
        subst (λ t. AnswersPlainly opening events (x.value.entry ∷ entries f.0) (with_first (taking t) (members ops))) (sym e)
        (record { seat = g.seat; call = Get q; e = g.e; reply = Got x.value.entry.0 x.value.entry.1; is = g.call }, refl, rest)
