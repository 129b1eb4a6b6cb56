-- Orders that are gone through. Plan: with each call that is taken the calls so far stay in order, since it ended behind all their
-- Starts; whatever a queue answers to the calls behind them it answers from the beginning on; and where all calls are marked none
-- is left out
use Rattle.std.proofs.Common.{◌≡◌, ℕ, suc, ◌+◌, ◌<◌, ◌≤◌, ◌==◌, ◌⊎◌, inl, inr, Bool, true, false, List, [], ◌∷◌, ◌++◌, map, length, refl, sym, ap, ◌∙◌, subst, arith, add-one, set, take, get_or, if◌then◌else◌}
use Rattle.std.specs.Prelude.{Some, slice_get, slice_index_or, unwrap_or}
use Rattle.std.proofs.lemmas.Bool.{cases_order, cases_eq}
use Rattle.std.proofs.lemmas.Bool.Decides.{eqb_tells}
use Rattle.std.proofs.lemmas.List.{append-nil, append_assoc, map-append, length-set, get_or-set_same, get_or-set_other, length-take-le, take_more}
use Rattle.std.proofs.lemmas.Option.{slice_get_within}
use Rattle.scq_hist.specs.Exports.{IsCall, StandsIn, Distinct, puts_before}
use Rattle.scq_hist.specs.declared.events.Call.{Call}
use Rattle.scq_hist.specs.declared.events.Call.TheVariants.{Put, Get}
use Rattle.scq_hist.specs.declared.events.Event.{Event}
use Rattle.scq_hist.specs.declared.events.Event.TheVariants.{Start, End}
use Rattle.scq_hist.specs.declared.events.PutName.{PutName}
use Rattle.scq_hist.specs.declared.events.PutName.TheVariants.{Opening, Of}
use Rattle.scq_hist.specs.declared.events.Reply.{Reply}
use Rattle.scq_hist.proofs.UnderWay.{started}
use Rattle.scq_order.specs.Exports.{plain_after, Member, token, call_at, AnswersPlainly, queue_of, StandsBefore, IsOrderable, IsMember, IsOrderOf}
use Rattle.scq_order.proofs.RightOrders.{either, one_end_of}
use Rattle.scq_check.specs.Exports.{own_start}
use Rattle.scq_judge.specs.Ordering.{opening_of, tokens_from, start_at, member_at, members_of, AreOrders}
use Rattle.scq_judge.specs.OwnCalls.{IsEndedAt, put_with}
use Rattle.scq_judge.specs.Sequential.{held_from, IsPlain}
use Rattle.scq_judge.specs.Walking.{IsToOrder, EndsInOrder, IsMarked, AreTaken, AreTakenFrom, IsTaken, AreAllPlaced, AreAllTaken, AreGone, IsMarkedBy}
use Rattle.scq_judge.specs.declared.own_calls.EndedCall.{EndedCall}
use Rattle.scq_judge.specs.declared.walking.QueueOrder.{QueueOrder}
use Rattle.scq_judge.proofs.ListLemmas.{in_front, in_back, in_either, before_in_front, before_in_back, front_before_back, before_pushed, in_pushed, distinct_both, mapped_in, in_mapped, mapped_before}
use Rattle.scq_judge.proofs.TokenLemmas.{token_in, token_is, tokens_once, tokens_rise, tokens_answered}

pub start_is : (events : List Event) (seat s e : ℕ) (call : Call) (reply : Reply) → IsCall events seat call s e reply → start_at events e ≡ s
start_is events seat s e call reply is = ap (own_start events e) is.ends ∙ ap (λ o. unwrap_or o e) is.under_way_till

pub start_below : (events : List Event) (seat s e : ℕ) (call : Call) (reply : Reply) → IsCall events seat call s e reply → s < length events
start_below events seat s e call reply is = slice_get_within events s (Start seat call) is.starts

-- the opening tokens of the queue are those that it has first
pub opened : (opening : List (List ℕ)) (events : List Event) (queue : ℕ) (placed : List Bool)
    → AreTaken opening events queue [] (held_from 0 (opening_of opening queue)) 0 placed
opened opening events queue placed = record {
  each = λ e h. absurd h;
  once = tt;
  overlap = λ d e h. absurd h;
  late = λ e h. absurd h;
  marked = λ e h. absurd h;
  plain = λ rest h. subst (λ ts. AnswersPlainly opening events [] (ts ++ rest)) (sym (append-nil (tokens_from 0 (opening_of opening queue))))
      (tokens_answered opening events 0 (opening_of opening queue) [] rest (all_there (queue == 0)) h);
}
  where
    all_there : (b : Bool) (i : ℕ) (content : List ℕ) → slice_get (if b then opening else []) i ≡ Some content → slice_get opening (0 + i) ≡ Some content
    all_there true i content is = let at : i ≡ 0 + i = omega arith in subst (λ z. slice_get opening z ≡ Some content) at is
    all_there false i content is = absurd cc

-- what a queue holds after a call, by the number of a put
same_after : (held : List (PutName × List ℕ)) (call : Call) (seat n put : ℕ) → put ≡ put_with n call
    → plain_after held (Of seat put) call ≡ plain_after held (Of seat (suc n)) call
same_after held (Put q w) seat n put is = ap (λ z. held ++ (Of seat z, w) ∷ []) (is ∙ add-one n)
same_after [] (Get q) seat n put is = refl
same_after (front ∷ held) (Get q) seat n put is = refl

-- one call more
pub taken_more : (opening : List (List ℕ)) (events : List Event) (queue : ℕ) (ends : List ℕ) (held next : List (PutName × List ℕ)) (latest later e : ℕ)
    (placed more : List Bool) (ended : EndedCall) → IsEndedAt events e ended → IsToOrder queue ended → IsPlain held ended next → latest < e
    → slice_index_or placed ended.own.start false ≡ false → IsMarked more ended.own.start → ((s : ℕ) → IsMarked placed s → IsMarked more s) → latest ≤ later
    → ended.own.start ≤ later → AreTaken opening events queue ends held latest placed → AreTaken opening events queue (ends ++ e ∷ []) next later more
taken_more opening events queue ends held next latest later e placed more ended it fit plain below unmarked marks keeps le start_le are = record {
  each = λ d h. elim (in_pushed ends e d h) [ inl a ↦ are.each d a | inr same ↦ subst (EndsInOrder events queue) same ends_here ];
  once = subst Distinct (sym (map-append (member_at events) ends (e ∷ [])))
      (distinct_both (map (member_at events) ends) (member_at events e ∷ []) are.once (λ h. h, tt) new_here);
  overlap = λ d f h. elim (before_pushed ends e d f h) [
    | inl a ↦ are.overlap d f a
    | inr w ↦ (let a = are.late d w.0 in let b = w.1 in omega arith)
  ];
  late = λ d h. elim (in_pushed ends e d h) [
    | inl a ↦ (let b = are.late d a in omega arith)
    | inr same ↦ (let b : start_at events d ≡ ended.own.start = ap (start_at events) (sym same) ∙ here in omega arith)
  ];
  marked = λ d h. elim (in_pushed ends e d h) [
    | inl a ↦ keeps (start_at events d) (are.marked d a)
    | inr same ↦ subst (IsMarked more) (sym (ap (start_at events) (sym same) ∙ here)) marks
  ];
  plain = λ rest h. subst (AnswersPlainly opening events []) (sym (joined rest)) (are.plain (member_at events e ∷ rest)
      (subst (λ s. AnswersPlainly opening events held (call_at s ∷ rest)) (sym here) (answered rest h)));
}
  where
    here : start_at events e ≡ ended.own.start
    here = start_is events ended.seat ended.own.start e ended.call.now ended.reply.now it.is

    ends_here : EndsInOrder events queue e
    ends_here = record { seat = ended.seat; call = ended.call.now; s = ended.own.start; reply = ended.reply.now; is = it.is; of_queue = fit.of_queue; not_spent = fit.not_spent }

    new_here : (x : Member) → StandsIn (map (member_at events) ends) x → ¬ StandsIn (member_at events e ∷ []) x
    new_here x h (inr k) = k
    new_here x h (inl same) =
        let r = in_mapped (member_at events) ends x h in
        let is = r.is in
        let starts : start_at events r.x ≡ start_at events e = cc in
        let mark : IsMarked placed ended.own.start = subst (IsMarked placed) (starts ∙ here) (are.marked r.x r.is_in) in
        absurd cc

    joined : (rest : List Member) → members_of opening events queue (ends ++ e ∷ []) ++ rest ≡ members_of opening events queue ends ++ (member_at events e ∷ rest)
    joined rest =
        ap (λ ms. (tokens_from 0 (opening_of opening queue) ++ ms) ++ rest) (map-append (member_at events) ends (e ∷ []))
        ∙ ap (λ ms. ms ++ rest) (sym (append_assoc (tokens_from 0 (opening_of opening queue)) (map (member_at events) ends) (member_at events e ∷ [])))
        ∙ append_assoc (members_of opening events queue ends) (member_at events e ∷ []) rest

    answered : (rest : List Member) → AnswersPlainly opening events next rest → AnswersPlainly opening events held (call_at ended.own.start ∷ rest)
    answered rest h = (
      record { seat = ended.seat; call = ended.call.now; e = e; reply = ended.reply.now; is = it.is },
      plain.reply,
      subst (λ q. AnswersPlainly opening events q rest)
          (plain.after ∙ same_after held ended.call.now ended.seat (puts_before events ended.seat ended.own.start) ended.own.put it.put) h,
    )

-- and what has become marked
pub from_more : (opening : List (List ℕ)) (events : List Event) (queue : ℕ) (ends : List ℕ) (held next : List (PutName × List ℕ)) (latest later e : ℕ)
    (old placed more : List Bool) (ended : EndedCall) → IsEndedAt events e ended → IsToOrder queue ended → IsPlain held ended next → latest < e
    → slice_index_or placed ended.own.start false ≡ false → more ≡ set placed ended.own.start true → latest ≤ later → ended.own.start ≤ later
    → AreTakenFrom opening events queue ends held latest old placed → AreTakenFrom opening events queue (ends ++ e ∷ []) next later old more
from_more opening events queue ends held next latest later e old placed more ended it fit plain below unmarked set_is le start_le are = record {
  many = ap length set_is ∙ length-set placed ended.own.start true ∙ are.many;
  taken = taken_more opening events queue ends held next latest later e placed more ended it fit plain below unmarked here (λ s h. kept s h) le start_le are.taken;
  marks = λ s h. elim (cases_eq s ended.own.start) [
    | inl same ↦ inr (record { e = e; is_in = in_back ends (e ∷ []) e (inl refl); is = same ∙ sym starts })
    | inr ne ↦ elim (are.marks s (sym (get_or-set_other placed ended.own.start s true false ne) ∙ ap (λ xs. slice_index_or xs s false) (sym set_is) ∙ h)) [
      | inl a ↦ inl a
      | inr b ↦ inr (record { e = b.e; is_in = in_front ends (e ∷ []) b.e b.is_in; is = b.is })
    ]
  ];
}
  where
    starts : start_at events e ≡ ended.own.start
    starts = start_is events ended.seat ended.own.start e ended.call.now ended.reply.now it.is

    within : ended.own.start < length placed
    within = let lt = start_below events ended.seat ended.own.start e ended.call.now ended.reply.now it.is in let many = are.many in omega arith

    here : IsMarked more ended.own.start
    here = ap (λ xs. slice_index_or xs ended.own.start false) set_is ∙ get_or-set_same placed ended.own.start true false within

    kept : (s : ℕ) → IsMarked placed s → IsMarked more s
    kept s h = elim (cases_eq s ended.own.start) [
      | inl same ↦ subst (IsMarked more) (sym same) here
      | inr ne ↦ ap (λ xs. slice_index_or xs s false) set_is ∙ get_or-set_other placed ended.own.start s true false ne ∙ h
    ]

pub from_opened : (opening : List (List ℕ)) (events : List Event) (queue : ℕ) (held : List (PutName × List ℕ)) (placed : List Bool)
    → held ≡ held_from 0 (opening_of opening queue) → length placed ≡ length events → AreTakenFrom opening events queue [] held 0 placed placed
from_opened opening events queue held placed is many = record {
  many = many;
  taken = subst (λ h. AreTaken opening events queue [] h 0 placed) (sym is) (opened opening events queue placed);
  marks = λ s h. inl h;
}

-- the tokens are held one after the other
pub held_more : (j : ℕ) (opening : List (List ℕ)) (content : List ℕ) → held_from j (opening ++ content ∷ []) ≡ held_from j opening ++ (Opening (j + length opening), content) ∷ []
held_more j [] content = let at : j ≡ j + 0 = omega arith in ap (λ z. (Opening z, content) ∷ []) at
held_more j (w ∷ more) content =
    let at : suc j + length more ≡ j + suc (length more) = omega arith in
    ap (λ xs. (Opening j, w) ∷ xs) (held_more (suc j) more content ∙ ap (λ z. held_from (suc j) more ++ (Opening z, content) ∷ []) at)

pub held_next : (opening : List (List ℕ)) (j number : ℕ) (content : List ℕ) (old new : List (PutName × List ℕ)) → j < length opening → number ≡ j
    → content ≡ get_or opening j content → old ≡ held_from 0 (take j opening) → new ≡ old ++ (Opening number, content) ∷ []
    → new ≡ held_from 0 (take (j + 1) opening)
held_next opening j number content old new lt same at is grows =
    let short : length (take j opening) ≡ j = length-take-le j opening (omega arith) in
    let numbered : number ≡ 0 + length (take j opening) = omega arith in
    let more : take (j + 1) opening ≡ take j opening ++ content ∷ [] =
    take_more opening j content lt ∙ ap (λ x. take j opening ++ x ∷ []) (sym at) in
    grows ∙ ap (λ h. h ++ (Opening number, content) ∷ []) is ∙ ap (λ n. held_from 0 (take j opening) ++ (Opening n, content) ∷ []) numbered
    ∙ sym (ap (held_from 0) more ∙ held_more 0 (take j opening) content)

-- one order more
pub gone_more : (opening : List (List ℕ)) (events : List Event) (orders : List QueueOrder) (i least : ℕ) (placed new : List Bool) (order : QueueOrder)
    → slice_get orders i ≡ Some order → least ≤ order.queue → IsTaken opening events order placed new → AreGone opening events orders i least placed
    → AreGone opening events orders (i + 1) (order.queue + 1) new
gone_more opening events orders i least placed new order at_i above is gone = record {
  many = is.all.many;
  below = λ k a lt at_k. elim (last_or_before k a lt at_k) [
    | inl same ↦ (let x = ap (λ (o : QueueOrder). o.queue) same in omega arith)
    | inr before ↦ (let x = gone.below k a before at_k in omega arith)
  ];
  ascend = λ j k a b lt before at_j at_k. elim (last_or_before k b before at_k) [
    | inl same ↦ (
        let x = gone.below j a (let kle : k < i + 1 = before in omega arith) at_j in let y = ap (λ (o : QueueOrder). o.queue) same in omega arith)
    | inr lower ↦ gone.ascend j k a b lt lower at_j at_k
  ];
  taken = λ k a lt at_k. elim (last_or_before k a lt at_k) [
    | inl same ↦ subst (AreAllTaken opening events) (sym same) (record { held = is.held; latest = is.latest; placed = new; taken = is.all.taken })
    | inr before ↦ gone.taken k a before at_k
  ];
  marked = λ s h. elim (is.all.marks s h) [
    | inl a ↦ (let m = gone.marked s a in let lt = m.before in record { k = m.k; order = m.order; e = m.e; before = omega arith; at_k = m.at_k; is_in = m.is_in; is = m.is })
    | inr b ↦ record { k = i; order = order; e = b.e; before = omega arith; at_k = at_i; is_in = b.is_in; is = b.is }
  ];
}
  where
    last_or_before : (k : ℕ) (a : QueueOrder) → k < i + 1 → slice_get orders k ≡ Some a → (a ≡ order) ⊎ (k < i)
    last_or_before k a lt at_k = elim (cases_eq k i) [
      | inl same ↦ inl (let x : slice_get orders k ≡ slice_get orders i = ap (slice_get orders) same in cc)
      | inr ne ↦ inr (omega arith)
    ]

-- the calls that were taken, where none is left out
pub is_order_of : (opening : List (List ℕ)) (events : List Event) (queue : ℕ) (ends : List ℕ) (held : List (PutName × List ℕ)) (latest : ℕ) (placed : List Bool)
    → AreTaken opening events queue ends held latest placed
    → ((s : ℕ) → IsOrderable events queue s → StandsIn (map (member_at events) ends) (call_at s))
    → IsOrderOf opening events queue (members_of opening events queue ends)
is_order_of opening events queue ends held latest placed are all = record {
  all = all_in;
  only = λ x h. elim (in_either tokens calls x h) [ inl a ↦ token_only x a | inr b ↦ call_only x b ];
  once = distinct_both tokens calls (tokens_once 0 (opening_of opening queue)) are.once (λ x h k.
      let t = token_is 0 (opening_of opening queue) x h in let c = in_mapped (member_at events) ends x k in
      let a = t.is in let b = c.is in absurd cc);
  first = λ j s h k. front_before_back tokens calls (token j) (call_at s) (is_token j h) (is_call s k);
  ascend = λ i j lt h k. let r = token_is 0 (opening_of opening queue) (token j) (is_token j k) in
      let same : j ≡ r.i = (let e = r.is in cc) in let high = r.high in
      before_in_front tokens calls (token i) (token j) (tokens_rise 0 (opening_of opening queue) i j (omega arith) lt (omega arith));
  real_time = λ s r e seat call reply is lt h k. before_in_back tokens calls (call_at s) (call_at r)
      (ordered s r e seat call reply is lt (in_mapped (member_at events) ends (call_at s) (is_call s h)).x
      (in_mapped (member_at events) ends (call_at r) (is_call r k)).x
      (in_mapped (member_at events) ends (call_at s) (is_call s h)).is_in (in_mapped (member_at events) ends (call_at r) (is_call r k)).is_in
      (in_mapped (member_at events) ends (call_at s) (is_call s h)).is (in_mapped (member_at events) ends (call_at r) (is_call r k)).is);
  plain = subst (AnswersPlainly opening events []) (append-nil (members_of opening events queue ends)) (are.plain [] tt);
}
  where
    tokens : List Member
    tokens = tokens_from 0 (opening_of opening queue)

    calls : List Member
    calls = map (member_at events) ends

    is_token : (j : ℕ) → StandsIn (members_of opening events queue ends) (token j) → StandsIn (tokens_from 0 (opening_of opening queue)) (token j)
    is_token j h = elim (in_either (tokens_from 0 (opening_of opening queue)) (map (member_at events) ends) (token j) h) [
      | inl a ↦ a
      | inr b ↦ (let c = in_mapped (member_at events) ends (token j) b in let is = c.is in absurd cc)
    ]

    is_call : (s : ℕ) → StandsIn (members_of opening events queue ends) (call_at s) → StandsIn (map (member_at events) ends) (call_at s)
    is_call s h = elim (in_either (tokens_from 0 (opening_of opening queue)) (map (member_at events) ends) (call_at s) h) [
      | inl a ↦ (let t = token_is 0 (opening_of opening queue) (call_at s) a in let is = t.is in absurd cc)
      | inr b ↦ b
    ]

    token_of : (b : Bool) (j : ℕ) → (queue == 0) ≡ b → j < length (if b then opening else []) → IsMember opening events queue (token j)
    token_of true j is lt = elim (eqb_tells queue 0) [ inl e ↦ (e.1, lt) | inr e ↦ (let f = e.0 in absurd cc) ]
    token_of false j is lt = absurd (omega arith)

    token_only : (x : Member) → StandsIn (tokens_from 0 (opening_of opening queue)) x → IsMember opening events queue x
    token_only x h =
        let t = token_is 0 (opening_of opening queue) x h in let high = t.high in
        subst (IsMember opening events queue) (sym t.is) (token_of (queue == 0) t.i refl (omega arith))

    call_only : (x : Member) → StandsIn (map (member_at events) ends) x → IsMember opening events queue x
    call_only x h =
        let c = in_mapped (member_at events) ends x h in
        let d = are.each c.x c.is_in in
        let at = start_is events d.seat d.s c.x d.call d.reply d.is in
        let is : call_at d.s ≡ x = ap call_at (sym at) ∙ c.is in
        subst (IsMember opening events queue) is (record {
          ended = record { seat = d.seat; call = d.call; e = c.x; reply = d.reply; is = d.is };
          of_queue = d.of_queue;
          not_spent = d.not_spent;
        })

    all_in : (x : Member) → IsMember opening events queue x → StandsIn (members_of opening events queue ends) x
    all_in (token j) h =
        in_front (tokens_from 0 (opening_of opening queue)) (map (member_at events) ends) (token j) (elim (eqb_tells queue 0) [
          | inl e ↦ (let has : opening_of opening queue ≡ opening = rw e.0 refl in
              let high = h.1 in
              token_in 0 (opening_of opening queue) j (omega arith) (subst (λ o. j < 0 + length o) (sym has) (omega arith)))
          | inr e ↦ absurd (e.1 h.0)
        ])
    all_in (call_at s) h = in_back (tokens_from 0 (opening_of opening queue)) (map (member_at events) ends) (call_at s) (all s h)

    ordered : (s r e seat : ℕ) (call : Call) (reply : Reply) → IsCall events seat call s e reply → e < r → (d f : ℕ) → StandsIn ends d → StandsIn ends f
        → member_at events d ≡ call_at s → member_at events f ≡ call_at r → StandsBefore (map (member_at events) ends) (call_at s) (call_at r)
    ordered s r e seat call reply is lt d f h k at_d at_f =
        let ds : start_at events d ≡ s = cc in
        let fs : start_at events f ≡ r = cc in
        let c = are.each d h in
        let own : c.s ≡ s = sym (start_is events c.seat c.s d c.call c.reply c.is) ∙ ds in
        let mine : IsCall events c.seat c.call s d c.reply = subst (λ z. IsCall events c.seat c.call z d c.reply) own c.is in
        let same : d ≡ e = one_end_of events s d e c.seat seat c.call call c.reply reply mine is in
        let before = (started events seat e s is.under_way_till).before in
        elim (either ends d f h k) [
          | inl one ↦ (let x : s ≡ r = sym ds ∙ ap (start_at events) one ∙ fs in absurd (omega arith))
          | inr w ↦ elim w [
            | inl b ↦ subst (λ x. StandsBefore (map (member_at events) ends) x (call_at r)) at_d
                (subst (λ x. StandsBefore (map (member_at events) ends) (member_at events d) x) at_f (mapped_before (member_at events) ends d f b))
            | inr b ↦ (let x = are.overlap f d b in absurd (omega arith))
          ]
        ]

-- all orders were gone through, and no call is left out
pub are_orders : (opening : List (List ℕ)) (events : List Event) (orders : List QueueOrder) (i least : ℕ) (placed : List Bool) → length orders ≤ i
    → AreGone opening events orders i least placed → AreAllPlaced events placed (length events) → AreOrders opening events orders
are_orders opening events orders i least placed whole gone placed_all = record {
  ascend = λ j k a b lt at_j at_k. gone.ascend j k a b lt (within k b at_k) at_j at_k;
  ends = λ k order at_k e h. let d = (gone.taken k order (within k order at_k) at_k).taken.each e h in
      record { seat = d.seat; call = d.call; s = d.s; reply = d.reply; is = d.is };
  each = λ k order at_k. let t = gone.taken k order (within k order at_k) at_k in
      is_order_of opening events order.queue order.ends.items t.held t.latest t.placed t.taken (λ s h. stands k order at_k s h);
  all = λ queue s h. let m = marked queue s h in (m.k, m.order, m.at_k, of_queue queue s h m);
}
  where
    within : (k : ℕ) (order : QueueOrder) → slice_get orders k ≡ Some order → k < i
    within k order at_k = let lt = slice_get_within orders k order at_k in omega arith

    marked : (queue s : ℕ) → IsOrderable events queue s → IsMarkedBy events orders i s
    marked queue s h =
        let c = h.ended in
        gone.marked s (placed_all c.e (slice_get_within events c.e (End c.seat c.reply) c.is.ends) c.seat s c.call c.reply c.is h.not_spent)

    of_queue : (queue s : ℕ) (h : IsOrderable events queue s) (m : IsMarkedBy events orders i s) → m.order.queue ≡ queue
    of_queue queue s h m =
        let t = gone.taken m.k m.order (within m.k m.order m.at_k) m.at_k in
        let d = t.taken.each m.e m.is_in in
        let own : d.s ≡ s = sym (start_is events d.seat d.s m.e d.call d.reply d.is) ∙ sym m.is in
        let a : slice_get events s ≡ Some (Start d.seat d.call) = subst (λ z. slice_get events z ≡ Some (Start d.seat d.call)) own d.is.starts in
        let b = h.ended.is.starts in
        let calls : d.call ≡ h.ended.call = cc in
        sym d.of_queue ∙ ap queue_of calls ∙ h.of_queue

    one_order : (j k : ℕ) (a b : QueueOrder) → slice_get orders j ≡ Some a → slice_get orders k ≡ Some b → a.queue ≡ b.queue → a ≡ b
    one_order j k a b at_j at_k same = elim (cases_order j k) [
      | inl e ↦ (let x : slice_get orders j ≡ slice_get orders k = ap (slice_get orders) e in cc)
      | inr w ↦ elim w [
        | inl lt ↦ (let x = gone.ascend j k a b lt (within k b at_k) at_j at_k in absurd (omega arith))
        | inr lt ↦ (let x = gone.ascend k j b a lt (within j a at_j) at_k at_j in absurd (omega arith))
      ]
    ]

    stands : (k : ℕ) (order : QueueOrder) → slice_get orders k ≡ Some order → (s : ℕ) → IsOrderable events order.queue s
        → StandsIn (map (member_at events) order.ends.items) (call_at s)
    stands k order at_k s h =
        let m = marked order.queue s h in
        let same : m.order ≡ order = one_order m.k k m.order order m.at_k at_k (of_queue order.queue s h m) in
        subst (λ (o : QueueOrder). StandsIn (map (member_at events) o.ends.items) (call_at s)) same
        (subst (λ x. StandsIn (map (member_at events) m.order.ends.items) (call_at x)) (sym m.is) (mapped_in (member_at events) m.order.ends.items m.e m.is_in))
