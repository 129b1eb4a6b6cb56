-- All values of a queue in one list: no two have the same source. Plan: first the tokens, in their
-- order, then position by position
use Rattle.std.proofs.Common.{◌≡◌, ◌==◌, ℕ, zero, suc, ◌+◌, ◌<◌, ◌≤◌, ◌⊎◌, inl, inr, List, [], ◌∷◌, length, refl, sym, ap, ◌∙◌, subst, arith, eq-eqb}
use Rattle.std.specs.Prelude.{Option, Some, None, slice_get, get_or, ◌-◌}
use Rattle.std.proofs.lemmas.Bool.{cases_lt, cond-true}
use Rattle.std.proofs.lemmas.Bool.Decides.{eqb_tells}
use Rattle.std.proofs.lemmas.Option.{slice_get_within, none-some, slice_get-get_or}
use Rattle.scq_hist.specs.Exports.{under_way, IsCall, IsLawful, IsLawfulAt, IsAnswer, SuitsCall, StandsIn, Distinct}
use Rattle.scq_hist.specs.declared.events.Call.{Call}
use Rattle.scq_hist.specs.declared.events.Call.TheVariants.{Put, Get}
use Rattle.scq_hist.specs.declared.events.Event.{Event}
use Rattle.scq_hist.specs.declared.events.Event.TheVariants.{Start, End}
use Rattle.scq_hist.specs.declared.events.Reply.{Reply}
use Rattle.scq_hist.specs.declared.events.Reply.TheVariants.{Done, Got, Nothing, Spent}
use Rattle.scq_hist.proofs.UnderWay.{same_call}
use Rattle.scq_order.specs.Exports.{Member, token, call_at, IsComplete, IsRight, queue_of}
use Rattle.scq_order.proofs.Values.{Value}
use Rattle.scq_order.proofs.FreshOrders.{one_reply}
use Rattle.scq_order.proofs.QueueValues.{IsValue, Sourced, token_value, put_value, none_value}

-- in a complete history what starts ends
pub record EndsWith (events : List Event) (seat s : ℕ) (call : Call) : Type 0 where
  pub e : ℕ
  pub reply : Reply
  pub is : IsCall events seat call s e reply
  pub suits : SuitsCall call reply

-- the seat has the call under way from its Start on, or it has ended
data Status (events : List Event) (seat s : ℕ) (call : Call) (m : ℕ) : Type 0 where
  is_open : under_way events seat m ≡ Some s → Status events seat s call m
  ended : EndsWith events seat s call → Status events seat s call m

ends_here : (events : List Event) (seat s m k : ℕ) (call : Call) (reply : Reply) → slice_get events s ≡ Some (Start seat call)
    → under_way events seat m ≡ Some s → k ≡ seat → slice_get events m ≡ Some (End k reply) → IsAnswer events k m reply → EndsWith events seat s call
ends_here events seat s m k call reply at still same here a =
    let it : IsCall events seat call s m reply =
    record { starts = at; under_way_till = still; ends = subst (λ z. slice_get events m ≡ Some (End z reply)) same here } in
    let one = same_call events seat k s a.s m call a.call reply reply it a.is_call in
    record { e = m; reply = reply; is = it; suits = subst (λ z. SuitsCall z reply) (sym one.calls) a.suits }

status_after : (events : List Event) (seat s m : ℕ) (call : Call) → IsLawful events → slice_get events s ≡ Some (Start seat call)
    → under_way events seat m ≡ Some s → (event : Option Event) → slice_get events m ≡ event → Status events seat s call (suc m)
status_after events seat s m call lawful at still None here = is_open (rw here still)
status_after events seat s m call lawful at still (Some (Start k other)) here = elim (eqb_tells k seat) [
  | inl e ↦ (
      let idle : under_way events k m ≡ None = subst (λ z. IsLawfulAt events m z) here (lawful m) in
      absurd (none-some s (sym (subst (λ z. under_way events z m ≡ None) e.1 idle) ∙ still)))
  | inr e ↦ is_open (rw here (rw e.0 still))
]
status_after events seat s m call lawful at still (Some (End k reply)) here = elim (eqb_tells k seat) [
  | inl e ↦ ended (ends_here events seat s m k call reply at still e.1 here (subst (λ z. IsLawfulAt events m z) here (lawful m)))
  | inr e ↦ is_open (rw here (rw e.0 still))
]

just_started : (events : List Event) (seat s : ℕ) (call : Call) → slice_get events s ≡ Some (Start seat call) → under_way events seat (suc s) ≡ Some s
just_started events seat s call at = rw at (cond-true (seat == seat) (Some s) (under_way events seat s) (eq-eqb seat seat refl))

status : (events : List Event) (seat s n m : ℕ) (call : Call) → IsLawful events → slice_get events s ≡ Some (Start seat call)
    → m ≡ n + suc s → Status events seat s call m
status events seat s zero m call lawful at is =
    let first : suc s ≡ m = omega arith in
    is_open (subst (λ z. under_way events seat z ≡ Some s) first (just_started events seat s call at))
status events seat s (suc n) m call lawful at is =
    let next : suc (n + suc s) ≡ m = omega arith in
    subst (λ z. Status events seat s call z) next (elim (status events seat s n (n + suc s) call lawful at refl) [
      | is_open still ↦ status_after events seat s (n + suc s) call lawful at still (slice_get events (n + suc s)) refl
      | ended e ↦ ended e
    ])

-- each call of a complete history has ended
pub has_ended : (events : List Event) (seat s : ℕ) (call : Call) → IsLawful events → IsComplete events → slice_get events s ≡ Some (Start seat call)
    → EndsWith events seat s call
has_ended events seat s call lawful complete at =
    let lt = slice_get_within events s (Start seat call) at in
    elim (status events seat s (length events - suc s) (length events) call lawful at (omega arith)) [
      | is_open still ↦ absurd (none-some s (sym (complete seat) ∙ still))
      | ended e ↦ e
    ]

-- a call that starts a value of the queue: a put that ended with Done, or a get that found nothing
pub data StartsValue (events : List Event) (q s : ℕ) : Type 0 where
  put_done : (seat e : ℕ) (content : List ℕ) → IsCall events seat (Put q content) s e Done → StartsValue events q s
  found_none : (seat e : ℕ) → IsCall events seat (Get q) s e Nothing → StartsValue events q s

other_queue : (events : List Event) (q r s seat : ℕ) (call : Call) → slice_get events s ≡ Some (Start seat call) → queue_of call ≡ r → ¬ (r ≡ q)
    → ¬ StartsValue events q s
other_queue events q r s seat call at is differ (put_done k e w c) = let a = c.starts in differ cc
other_queue events q r s seat call at is differ (found_none k e c) = let a = c.starts in differ cc

-- what ended otherwise starts none
ended_otherwise : (events : List Event) (q s e seat : ℕ) (call : Call) (reply : Reply) → IsCall events seat call s e reply → ¬ (reply ≡ Done) → ¬ (reply ≡ Nothing)
    → ¬ StartsValue events q s
ended_otherwise events q s e seat call reply is not_done not_none (put_done k d w c) =
    let same = one_reply events s d k (Put q w) Done c (record { seat = seat; call = call; e = e; reply = reply; is = is }) in not_done same.1
ended_otherwise events q s e seat call reply is not_done not_none (found_none k d c) =
    let same = one_reply events s d k (Get q) Nothing c (record { seat = seat; call = call; e = e; reply = reply; is = is }) in not_none same.1

decide_put : (events : List Event) (q s seat : ℕ) (content : List ℕ) (e : ℕ) (reply : Reply) → IsCall events seat (Put q content) s e reply
    → SuitsCall (Put q content) reply → StartsValue events q s ⊎ (¬ StartsValue events q s)
decide_put events q s seat content e Done is suits = inl (put_done seat e content is)
decide_put events q s seat content e Spent is suits = inr (ended_otherwise events q s e seat (Put q content) Spent is (λ h. absurd cc) (λ h. absurd cc))
decide_put events q s seat content e Nothing is suits = absurd suits
decide_put events q s seat content e (Got name w) is suits = absurd suits

decide_get_end : (events : List Event) (q s seat e : ℕ) (reply : Reply) → IsCall events seat (Get q) s e reply
    → SuitsCall (Get q) reply → StartsValue events q s ⊎ (¬ StartsValue events q s)
decide_get_end events q s seat e Done is suits = absurd suits
decide_get_end events q s seat e Spent is suits = inr (ended_otherwise events q s e seat (Get q) Spent is (λ h. absurd cc) (λ h. absurd cc))
decide_get_end events q s seat e Nothing is suits = inl (found_none seat e is)
decide_get_end events q s seat e (Got name w) is suits =
    inr (ended_otherwise events q s e seat (Get q) (Got name w) is (λ h. absurd cc) (λ h. absurd cc))

no_start : (events : List Event) (q s : ℕ) → ((seat : ℕ) (call : Call) → ¬ (slice_get events s ≡ Some (Start seat call))) → ¬ StartsValue events q s
no_start events q s none (put_done k e w c) = none k (Put q w) c.starts
no_start events q s none (found_none k e c) = none k (Get q) c.starts

decide_start : (events : List Event) (q s : ℕ) (event : Option Event) → IsLawful events → IsComplete events → slice_get events s ≡ event
    → StartsValue events q s ⊎ (¬ StartsValue events q s)
decide_start events q s None lawful complete here = inr (no_start events q s (λ seat call h. absurd cc))
decide_start events q s (Some (End k r)) lawful complete here = inr (no_start events q s (λ seat call h. absurd cc))
decide_start events q s (Some (Start k (Put r w))) lawful complete here = elim (eqb_tells r q) [
  | inl e ↦ (
      let at : slice_get events s ≡ Some (Start k (Put q w)) = subst (λ z. slice_get events s ≡ Some (Start k (Put z w))) e.1 here in
      let end = has_ended events k s (Put q w) lawful complete at in
      decide_put events q s k w end.e end.reply end.is end.suits)
  | inr e ↦ inr (other_queue events q r s k (Put r w) here refl e.1)
]
decide_start events q s (Some (Start k (Get r))) lawful complete here = elim (eqb_tells r q) [
  | inl e ↦ (
      let at : slice_get events s ≡ Some (Start k (Get q)) = subst (λ z. slice_get events s ≡ Some (Start k (Get z))) e.1 here in
      let end = has_ended events k s (Get q) lawful complete at in
      decide_get_end events q s k end.e end.reply end.is end.suits)
  | inr e ↦ inr (other_queue events q r s k (Get r) here refl e.1)
]

-- tokens below K, calls that start before n
abbrev pub IsSoFar : List Event → ℕ → ℕ → ℕ → Member → Type 0
IsSoFar events q k n (token j) = (q ≡ 0) × (j < k)
IsSoFar events q k n (call_at s) = (s < n) × StartsValue events q s

pub record Collected (opening : List (List ℕ)) (events : List Event) (q k n : ℕ) : Type 0 where
  pub values : List Value
  pub each : (v : Value) → StandsIn values v → IsValue opening events q v
  pub all : (m : Member) → IsSoFar events q k n m → (v : Value) × StandsIn values v × (v.source ≡ m)
  pub only : (v : Value) → StandsIn values v → IsSoFar events q k n v.source
  pub distinct : Distinct values
  pub one : (u v : Value) → StandsIn values u → StandsIn values v → u.source ≡ v.source → u ≡ v

-- the same values, where the bounds say the same
same_values : (opening : List (List ℕ)) (events : List Event) (q k n l m : ℕ) → ((x : Member) → IsSoFar events q k n x → IsSoFar events q l m x)
    → ((x : Member) → IsSoFar events q l m x → IsSoFar events q k n x) → Collected opening events q k n → Collected opening events q l m
same_values opening events q k n l m to from c = record {
  values = c.values;
  each = c.each;
  all = λ x h. c.all x (from x h);
  only = λ v h. to v.source (c.only v h);
  distinct = c.distinct;
  one = c.one;
}

-- a value more, whose source is new
one_more : (opening : List (List ℕ)) (events : List Event) (q k n l m : ℕ) (x : Member) → Sourced opening events q x → ¬ IsSoFar events q k n x
    → IsSoFar events q l m x → ((y : Member) → IsSoFar events q k n y → IsSoFar events q l m y)
    → ((y : Member) → IsSoFar events q l m y → (x ≡ y) ⊎ IsSoFar events q k n y) → Collected opening events q k n → Collected opening events q l m
one_more opening events q k n l m x s new here old split c =
    let v = s.value in
    let is_new : (u : Value) → StandsIn c.values u → ¬ (u.source ≡ x) = λ u h e. new (subst (λ z. IsSoFar events q k n z) e (c.only u h)) in
    record {
      values = s.value ∷ c.values;
      each = λ u h. elim h [ inl e ↦ subst (λ z. IsValue opening events q z) e s.is | inr i ↦ c.each u i ];
      all = λ y h. elim (split y h) [
        | inl e ↦ (s.value, inl refl, s.here ∙ e)
        | inr o ↦ (let r = c.all y o in (r.0, inr r.1, r.2))
      ];
      only = λ u h. elim h [
        | inl e ↦ subst (λ z. IsSoFar events q l m z.source) e (subst (λ z. IsSoFar events q l m z) (sym s.here) here)
        | inr i ↦ old u.source (c.only u i)
      ];
      distinct = (λ h. is_new s.value h s.here, c.distinct);
      one = λ u w h i e. elim h [
        | inl a ↦ elim i [
          | inl b ↦ sym a ∙ b
          | inr j ↦ absurd (is_new w j (sym e ∙ ap (λ z. z.source) (sym a) ∙ s.here))
        ]
        | inr g ↦ elim i [
          | inl b ↦ absurd (is_new u g (e ∙ ap (λ z. z.source) (sym b) ∙ s.here))
          | inr j ↦ c.one u w g j e
        ]
      ];
    }

tokens_up_to : (opening : List (List ℕ)) (events : List Event) (k : ℕ) → k ≤ length opening → IsRight opening events → Collected opening events 0 k 0
tokens_up_to opening events zero le right = record {
  values = [];
  each = λ v h. absurd h;
  all = λ m h. absurd (none m h);
  only = λ v h. absurd h;
  distinct = tt;
  one = λ u v h k e. absurd h;
}
  where
    none : (m : Member) → IsSoFar events 0 0 0 m → ⊥
    none (token j) h = let lt = h.1 in omega arith
    none (call_at s) h = let lt = h.0 in omega arith
tokens_up_to opening events (suc k) le right =
    one_more opening events 0 k 0 (suc k) 0 (token k)
    (token_value opening events k (get_or opening k []) right (slice_get-get_or opening k [] (omega arith)))
    (λ h. let lt = h.1 in omega arith) (refl, omega arith) old split (tokens_up_to opening events k (omega arith) right)
  where
    old : (y : Member) → IsSoFar events 0 k 0 y → IsSoFar events 0 (suc k) 0 y
    old (token j) h = (h.0, let lt = h.1 in omega arith)
    old (call_at s) h = h

    split : (y : Member) → IsSoFar events 0 (suc k) 0 y → (token k ≡ y) ⊎ IsSoFar events 0 k 0 y
    split (token j) h = elim (cases_lt j k) [ inl lt ↦ inr (refl, lt) | inr ge ↦ inl (ap token (let lt = h.1 in omega arith)) ]
    split (call_at s) h = inr h

tokens_of : (opening : List (List ℕ)) (events : List Event) (q : ℕ) → IsRight opening events → Collected opening events q (length opening) 0
tokens_of opening events zero right = tokens_up_to opening events (length opening) (omega arith) right
tokens_of opening events (suc q) right = record {
  values = [];
  each = λ v h. absurd h;
  all = λ m h. absurd (none m h);
  only = λ v h. absurd h;
  distinct = tt;
  one = λ u v h k e. absurd h;
}
  where
    none : (m : Member) → IsSoFar events (suc q) (length opening) 0 m → ⊥
    none (token j) h = let z = h.0 in omega arith
    none (call_at s) h = let lt = h.0 in omega arith

value_at : (opening : List (List ℕ)) (events : List Event) (q s : ℕ) → IsRight opening events → StartsValue events q s → Sourced opening events q (call_at s)
value_at opening events q s right (put_done seat e content c) = put_value opening events q s e seat content right c
value_at opening events q s right (found_none seat e c) = none_value opening events q s e seat right c

pub values_up_to : (opening : List (List ℕ)) (events : List Event) (q n : ℕ) → IsRight opening events → IsComplete events
    → Collected opening events q (length opening) n
values_up_to opening events q zero right complete = tokens_of opening events q right
values_up_to opening events q (suc n) right complete =
    let before = values_up_to opening events q n right complete in
    elim (decide_start events q n (slice_get events n) right.aspects.lawful complete refl) [
      | inl starts ↦ one_more opening events q (length opening) n (length opening) (suc n) (call_at n) (value_at opening events q n right starts)
          (λ h. let lt = h.0 in omega arith) (omega arith, starts) old split before
      | inr free ↦ same_values opening events q (length opening) n (length opening) (suc n) old (λ y h. without free y h) before
    ]
  where
    old : (y : Member) → IsSoFar events q (length opening) n y → IsSoFar events q (length opening) (suc n) y
    old (token j) h = h
    old (call_at s) h = (let lt = h.0 in omega arith, h.1)

    split : (y : Member) → IsSoFar events q (length opening) (suc n) y → (call_at n ≡ y) ⊎ IsSoFar events q (length opening) n y
    split (token j) h = inr h
    split (call_at s) h = elim (cases_lt s n) [ inl lt ↦ inr (lt, h.1) | inr ge ↦ inl (ap call_at (let lt = h.0 in omega arith)) ]

    without : ¬ StartsValue events q n → (y : Member) → IsSoFar events q (length opening) (suc n) y → IsSoFar events q (length opening) n y
    without free (token j) h = h
    without free (call_at s) h = elim (cases_lt s n) [
      | inl lt ↦ (lt, h.1)
      | inr ge ↦ absurd (free (subst (λ z. StartsValue events q z) (let lt = h.0 in omega arith) h.1))
    ]
