-- What a run of one queue's values consists of: puts and gets of stored values, and gets that found
-- nothing; what each says of the call that it stands for
use Rattle.std.proofs.Common.{◌≡◌, ℕ, ◌+◌, ◌<◌, ◌≤◌, ◌⊎◌, inl, inr, List, length, refl, sym, ap, ◌∙◌, subst, arith}
use Rattle.std.specs.Prelude.{Option, Some, None, slice_get, min, max}
use Rattle.std.proofs.lemmas.Option.{slice_get_within}
use Rattle.scq_hist.specs.Exports.{IsCall, IsPut, IsBegun, StandsIn}
use Rattle.scq_hist.specs.declared.events.Call.{Call}
use Rattle.scq_hist.specs.declared.events.Call.TheVariants.{Put, Get}
use Rattle.scq_hist.specs.declared.events.Event.{Event}
use Rattle.scq_hist.specs.declared.events.Event.TheVariants.{End}
use Rattle.scq_hist.specs.declared.events.PutName.{PutName}
use Rattle.scq_hist.specs.declared.events.PutName.TheVariants.{Opening, Of}
use Rattle.scq_hist.specs.declared.events.Reply.{Reply}
use Rattle.scq_hist.specs.declared.events.Reply.TheVariants.{Done, Got, Nothing}
use Rattle.scq_hist.proofs.Puts.{same_put}
use Rattle.scq_order.specs.Exports.{Member, token, call_at, IsRight, IsMember}
use Rattle.scq_order.proofs.Values.{Value}
use Rattle.scq_order.proofs.Ops.{Pointed, IsPoint, Op, puts, gets, finds_none, point_of}
use Rattle.scq_order.proofs.AgreeValues.{event_number, PutSpan, IsGotWithin, NeverGot}
use Rattle.scq_order.proofs.QueueValues.{IsStored, IsNone, IsPutBy, IsTakenBy}
use Rattle.scq_order.proofs.RightOrders.{one_end_of}
use Rattle.scq_order.proofs.Members.{taking, member_of}

abbrev pub IsPart : List (List ℕ) → List Event → ℕ → List Pointed → Op → Type 0
IsPart opening events q ps (puts x) = StandsIn ps x × IsPoint x × IsStored opening events q x.value
IsPart opening events q ps (gets x) = StandsIn ps x × IsPoint x × IsStored opening events q x.value
IsPart opening events q ps (finds_none x) = StandsIn ps x × IsPoint x × IsNone opening events q x.value

-- a stored value whose source is the call that starts at s: its put
pub record PutStarts (opening : List (List ℕ)) (events : List Event) (q : ℕ) (v : Value) (s : ℕ) : Type 0 where
  pub seat : ℕ
  pub number : ℕ
  pub content : List ℕ
  pub e : ℕ
  pub put : IsPut events seat number q content s
  pub call : IsCall events seat (Put q content) s e Done
  pub entry : v.entry ≡ (Of seat number, content)
  pub low : event_number opening s ≤ v.put_from
  pub high : v.put_till ≤ event_number opening e

put_starts_of : (opening : List (List ℕ)) (events : List Event) (q : ℕ) (v : Value) (s : ℕ) (name : PutName) (a b d : ℕ)
    (span : PutSpan opening events q name a b) → IsPutBy opening events q name a b span v → v.put_from ≡ a → v.put_till ≡ min b d → v.source ≡ call_at s
    → PutStarts opening events q v s
put_starts_of opening events q v s (Opening j) a b d span by from till is = let x = by.0 in absurd cc
put_starts_of opening events q v s (Of k n) a b d span by from till is =
    let x = by.0 in
    let at : span.1.s ≡ s = cc in
    let y = span.2 in let z = span.3 in
    record {
      seat = k;
      number = n;
      content = span.1.content;
      e = span.0;
      put = subst (λ i. IsPut events k n q span.1.content i) at span.1.put;
      call = subst (λ i. IsCall events k (Put q span.1.content) i span.0 Done) at span.1.call;
      entry = by.1;
      low = omega arith;
      high = omega arith;
    }

pub put_starts : (opening : List (List ℕ)) (events : List Event) (q : ℕ) (v : Value) (s : ℕ) → IsStored opening events q v → v.source ≡ call_at s
    → PutStarts opening events q v s
put_starts opening events q v s t is =
    put_starts_of opening events q v s t.name t.a t.b t.d t.spans.put t.put_by t.put_from t.put_till is

-- a stored value whose source is a token
pub record PutByToken (opening : List (List ℕ)) (q : ℕ) (v : Value) (j : ℕ) : Type 0 where
  pub of_free : q ≡ 0
  pub within : j < length opening
  pub content : List ℕ
  pub there : slice_get opening j ≡ Some content
  pub entry : v.entry ≡ (Opening j, content)
  pub low : j + j ≤ v.put_from
  pub high : v.put_till ≤ j + j

put_by_token_of : (opening : List (List ℕ)) (events : List Event) (q : ℕ) (v : Value) (i : ℕ) (name : PutName) (a b d : ℕ)
    (span : PutSpan opening events q name a b) → IsPutBy opening events q name a b span v → v.put_from ≡ a → v.put_till ≡ min b d → v.source ≡ token i
    → PutByToken opening q v i
put_by_token_of opening events q v i (Opening j) a b d span by from till is =
    let x = by.0 in
    let same : j ≡ i = cc in
    let y = span.2 in let z = span.3 in let lt = span.1 in
    record {
      of_free = span.0;
      within = omega arith;
      content = by.1;
      there = subst (λ z. slice_get opening z ≡ Some by.1) same by.2;
      entry = subst (λ z. v.entry ≡ (Opening z, by.1)) same by.3;
      low = omega arith;
      high = omega arith;
    }
put_by_token_of opening events q v i (Of k n) a b d span by from till is = let x = by.0 in absurd cc

pub put_by_token : (opening : List (List ℕ)) (events : List Event) (q : ℕ) (v : Value) (j : ℕ) → IsStored opening events q v → v.source ≡ token j
    → PutByToken opening q v j
put_by_token opening events q v j t is =
    put_by_token_of opening events q v j t.name t.a t.b t.d t.spans.put t.put_by t.put_from t.put_till is

-- a stored value that the call which starts at s takes: its get, of this queue, which got just it
pub record GetStarts (opening : List (List ℕ)) (events : List Event) (q : ℕ) (v : Value) (s : ℕ) : Type 0 where
  pub seat : ℕ
  pub e : ℕ
  pub call : IsCall events seat (Get q) s e (Got v.entry.0 v.entry.1)
  pub low : event_number opening s ≤ v.got_from
  pub high : v.got_till ≡ event_number opening e

record GotFits (opening : List (List ℕ)) (q : ℕ) (v : Value) (name : PutName) (queue : ℕ) (content : List ℕ) : Type 0 where
  pub queues : queue ≡ q
  pub names : name ≡ v.entry.0
  pub contents : content ≡ v.entry.1

got_fits : (opening : List (List ℕ)) (events : List Event) (q : ℕ) (v : Value) (name : PutName) (a b : ℕ) (queue e : ℕ) (content : List ℕ)
    (span : PutSpan opening events q name a b) → IsPutBy opening events q name a b span v → IsBegun opening events name queue content e
    → GotFits opening q v name queue content
got_fits opening events q v (Opening j) a b queue e content span by begun =
    let x = span.0 in let y = begun.0 in let z = by.2 in let w = begun.1 in let u = by.3 in
    record { queues = cc; names = sym (ap (λ (p : PutName × List ℕ). p.0) u); contents = (let t = ap (λ (p : PutName × List ℕ). p.1) u in cc) }
got_fits opening events q v (Of k n) a b queue e content span by begun =
    let same = same_put events k n q queue span.1.s begun.0 span.1.content content span.1.put begun.2 in
    let u = by.1 in
    record {
      queues = sym same.queue;
      names = sym (ap (λ (p : PutName × List ℕ). p.0) u);
      contents = sym same.content ∙ sym (ap (λ (p : PutName × List ℕ). p.1) u);
    }

get_starts_of : (opening : List (List ℕ)) (events : List Event) (q : ℕ) (v : Value) (s : ℕ) (name : PutName) (a b c d : ℕ) → IsRight opening events
    → (span : PutSpan opening events q name a b) → IsPutBy opening events q name a b span v
    → (got : IsGotWithin opening events name c d ⊎ NeverGot opening events name c d) → IsTakenBy opening events name c d got v
    → v.got_from ≡ max c a → v.got_till ≡ d → v.taker ≡ Some s → GetStarts opening events q v s
get_starts_of opening events q v s name a b c d right span by (inr n) taken from till is = absurd cc
get_starts_of opening events q v s name a b c d right span by (inl w) taken from till is =
    let at : w.s ≡ s = cc in
    let g = w.get in
    let fits = got_fits opening events q v name a b g.queue w.e g.content span by
    (right.aspects.fresh w.e w.s g.seat g.queue name g.content g.call) in
    let x = w.begins in let y = w.ends in
    record {
      seat = g.seat;
      e = w.e;
      call = subst (λ i. IsCall events g.seat (Get q) i w.e (Got v.entry.0 v.entry.1)) at
          (subst (λ i. IsCall events g.seat (Get i) w.s w.e (Got v.entry.0 v.entry.1)) fits.queues
          (subst (λ i. IsCall events g.seat (Get g.queue) w.s w.e (Got i v.entry.1)) fits.names
          (subst (λ i. IsCall events g.seat (Get g.queue) w.s w.e (Got name i)) fits.contents g.call)));
      low = omega arith;
      high = omega arith;
    }

pub get_starts : (opening : List (List ℕ)) (events : List Event) (q : ℕ) (v : Value) (s : ℕ) → IsRight opening events → IsStored opening events q v
    → v.taker ≡ Some s → GetStarts opening events q v s
get_starts opening events q v s right t is =
    get_starts_of opening events q v s t.name t.a t.b t.c t.d right t.spans.put t.put_by t.spans.got t.taken_by t.got_from t.got_till is

-- nobody takes it: its get is numbered above all
pub not_taken : (opening : List (List ℕ)) (events : List Event) (q : ℕ) (v : Value) → IsStored opening events q v → v.taker ≡ None
    → event_number opening (length events) ≤ v.got_from
not_taken opening events q v t is = late t.spans.got t.taken_by
  where
    late : (got : IsGotWithin opening events t.name t.c t.d ⊎ NeverGot opening events t.name t.c t.d) → IsTakenBy opening events t.name t.c t.d got v
        → event_number opening (length events) ≤ v.got_from
    late (inl w) by = absurd cc
    late (inr n) by = let x = n.begins in let y = t.got_from in omega arith

-- the puts are numbered below all
put_below_of : (opening : List (List ℕ)) (events : List Event) (q : ℕ) (name : PutName) (a b : ℕ) → PutSpan opening events q name a b
    → b < event_number opening (length events)
put_below_of opening events q (Opening j) a b span = let x = span.1 in let y = span.3 in omega arith
put_below_of opening events q (Of k n) a b span =
    let lt = slice_get_within events span.0 (End k Done) span.1.call.ends in let y = span.3 in omega arith

pub put_below : (opening : List (List ℕ)) (events : List Event) (q : ℕ) (v : Value) → IsStored opening events q v
    → v.put_till < event_number opening (length events)
put_below opening events q v t =
    let x = put_below_of opening events q t.name t.a t.b t.spans.put in let y = t.put_till in omega arith

pub taker_of : (taker : Option ℕ) (s : ℕ) → taking taker ≡ Some (call_at s) → taker ≡ Some s
taker_of None s e = absurd cc
taker_of (Some r) s e = cc

pub no_taker : (taker : Option ℕ) (j : ℕ) → taking taker ≡ Some (token j) → ⊥
no_taker None j e = absurd cc
no_taker (Some r) j e = absurd cc

-- an op of a call lies within the call
pub record LiesWithin (opening : List (List ℕ)) (s e point : ℕ) : Type 0 where
  pub low : event_number opening s ≤ point
  pub high : point ≤ event_number opening e

pub lies_within : (opening : List (List ℕ)) (events : List Event) (q : ℕ) (ps : List Pointed) (op : Op) (s e seat : ℕ) (call : Call) (reply : Reply)
    → IsRight opening events → IsPart opening events q ps op → member_of op ≡ Some (call_at s) → IsCall events seat call s e reply
    → LiesWithin opening s e (point_of op)
lies_within opening events q ps (puts x) s e seat call reply right part makes is =
    let p = put_starts opening events q x.value s part.2 cc in
    let same = one_end_of events s p.e e p.seat seat (Put q p.content) call Done reply p.call is in
    let a = p.low in let b = p.high in let c = part.1.put_low in let d = part.1.put_high in
    record { low = omega arith; high = omega arith }
lies_within opening events q ps (gets x) s e seat call reply right part makes is =
    let g = get_starts opening events q x.value s right part.2 (taker_of x.value.taker s makes) in
    let same = one_end_of events s g.e e g.seat seat (Get q) call (Got x.value.entry.0 x.value.entry.1) reply g.call is in
    let a = g.low in let b = g.high in let c = part.1.got_low in let d = part.1.got_high in
    record { low = omega arith; high = omega arith }
lies_within opening events q ps (finds_none x) s e seat call reply right part makes is =
    let n = part.2 in
    let t = n.source in
    let starts : n.s ≡ s = cc in
    let there = subst (λ i. IsCall events n.seat (Get q) i n.e Nothing) starts n.call in
    let same = one_end_of events s n.e e n.seat seat (Get q) call Nothing reply there is in
    let a = n.put_from in let b = n.put_till in let c = part.1.put_low in let d = part.1.put_high in let f = n.low in let g = n.high in
    record { low = omega arith; high = omega arith }

-- a token's point
pub token_point : (opening : List (List ℕ)) (events : List Event) (q : ℕ) (ps : List Pointed) (op : Op) (j : ℕ)
    → IsPart opening events q ps op → member_of op ≡ Some (token j) → (point_of op ≡ j + j) × (j < length opening)
token_point opening events q ps (puts x) j part makes =
    let p = put_by_token opening events q x.value j part.2 cc in
    let a = p.low in let b = p.high in let c = part.1.put_low in let d = part.1.put_high in
    (omega arith, p.within)
token_point opening events q ps (gets x) j part makes = absurd (no_taker x.value.taker j makes)
token_point opening events q ps (finds_none x) j part makes = let t = part.2.source in absurd cc

-- who makes an op is of the queue
pub op_member : (opening : List (List ℕ)) (events : List Event) (q : ℕ) (ps : List Pointed) (op : Op) (m : Member) → IsRight opening events
    → IsPart opening events q ps op → member_of op ≡ Some m → IsMember opening events q m
op_member opening events q ps (puts x) (token j) right part makes =
    let p = put_by_token opening events q x.value j part.2 cc in (p.of_free, p.within)
op_member opening events q ps (puts x) (call_at s) right part makes =
    let p = put_starts opening events q x.value s part.2 cc in
    record {
      ended = record { seat = p.seat; call = Put q p.content; e = p.e; reply = Done; is = p.call };
      of_queue = refl;
      not_spent = λ h. absurd cc;
    }
op_member opening events q ps (gets x) (token j) right part makes = absurd (no_taker x.value.taker j makes)
op_member opening events q ps (gets x) (call_at s) right part makes =
    let g = get_starts opening events q x.value s right part.2 (taker_of x.value.taker s makes) in
    record {
      ended = record { seat = g.seat; call = Get q; e = g.e; reply = Got x.value.entry.0 x.value.entry.1; is = g.call };
      of_queue = refl;
      not_spent = λ h. absurd cc;
    }
op_member opening events q ps (finds_none x) (token j) right part makes = let t = part.2.source in absurd cc
op_member opening events q ps (finds_none x) (call_at s) right part makes =
    let n = part.2 in
    let t = n.source in
    let starts : n.s ≡ s = cc in
    record {
      ended = record { seat = n.seat; call = Get q; e = n.e; reply = Nothing; is = subst (λ i. IsCall events n.seat (Get q) i n.e Nothing) starts n.call };
      of_queue = refl;
      not_spent = λ h. absurd cc;
    }
