-- The values of one queue of a right, complete history: its tokens, its puts that ended with Done, and
-- its gets that found nothing, each by its moment. They are fair. Plan: position by position
use Rattle.std.proofs.Common.{◌≡◌, ℕ, suc, ◌+◌, ◌<◌, ◌≤◌, ◌⊎◌, inl, inr, List, [], length, refl, arith}
use Rattle.std.specs.Prelude.{Option, Some, None, slice_get, min, max}
use Rattle.std.proofs.lemmas.Bool.{cases_lt}
use Rattle.std.proofs.lemmas.Option.{slice_get_within}
use Rattle.scq_hist.specs.Exports.{puts_before, IsCall, IsDoneAt, IsFinishedAt, AllClaimed, StandsIn}
use Rattle.scq_hist.specs.declared.events.Call.TheVariants.{Put, Get}
use Rattle.scq_hist.specs.declared.events.Event.{Event}
use Rattle.scq_hist.specs.declared.events.Event.TheVariants.{End}
use Rattle.scq_hist.specs.declared.events.PutName.{PutName}
use Rattle.scq_hist.specs.declared.events.PutName.TheVariants.{Opening, Of}
use Rattle.scq_hist.specs.declared.events.Reply.TheVariants.{Done, Nothing}
use Rattle.scq_hist.proofs.Claims.{decide_get}
use Rattle.scq_order.specs.Exports.{Member, token, call_at, IsComplete, IsRight}
use Rattle.scq_order.proofs.Values.{Value, IsTrimmed, Agree, AreFair}
use Rattle.scq_order.proofs.AgreeValues.{event_number, moment_number, PutSpan, IsGotWithin, NeverGot, Spans, put_low, got_low, fresh_span, puts_agree, nothing_agrees}

-- who puts the value of this name, and what it is
abbrev pub IsPutBy : (opening : List (List ℕ)) (events : List Event) (q : ℕ) (name : PutName) (from till : ℕ)
    → PutSpan opening events q name from till → Value → Type 0
IsPutBy opening events q (Opening j) from till span v =
    (v.source ≡ token j) × (content : List ℕ) × (slice_get opening j ≡ Some content) × (v.entry ≡ (Opening j, content))
IsPutBy opening events q (Of k n) from till span v = (v.source ≡ call_at span.1.s) × (v.entry ≡ (Of k n, span.1.content))

-- who takes it
abbrev pub IsTakenBy : (opening : List (List ℕ)) (events : List Event) (name : PutName) (from till : ℕ)
    → IsGotWithin opening events name from till ⊎ NeverGot opening events name from till → Value → Type 0
IsTakenBy opening events name from till (inl w) v = v.taker ≡ Some w.s
IsTakenBy opening events name from till (inr n) v = v.taker ≡ None

-- a value that is put, with its numbers trimmed
pub record IsStored (opening : List (List ℕ)) (events : List Event) (q : ℕ) (v : Value) : Type 0 where
  pub name : PutName
  pub a : ℕ
  pub b : ℕ
  pub c : ℕ
  pub d : ℕ
  pub spans : Spans opening events q name a b c d
  pub put_by : IsPutBy opening events q name a b spans.put v
  pub taken_by : IsTakenBy opening events name c d spans.got v
  pub top : d ≤ event_number opening (length events)
  pub put_from : v.put_from ≡ a
  pub put_till : v.put_till ≡ min b d
  pub got_from : v.got_from ≡ max c a
  pub got_till : v.got_till ≡ d

-- a get that finds nothing, by its moment
pub record IsNone (opening : List (List ℕ)) (events : List Event) (q : ℕ) (v : Value) : Type 0 where
  pub s : ℕ
  pub e : ℕ
  pub seat : ℕ
  pub m : ℕ
  pub call : IsCall events seat (Get q) s e Nothing
  pub low : s < m
  pub high : m ≤ e
  pub claimed : AllClaimed events q m (IsFinishedAt opening events q m)
  pub source : v.source ≡ call_at s
  pub taker : v.taker ≡ None
  pub put_from : v.put_from ≡ moment_number opening m
  pub put_till : v.put_till ≡ moment_number opening m
  pub got_from : v.got_from ≡ moment_number opening m
  pub got_till : v.got_till ≡ moment_number opening m

abbrev pub IsValue : List (List ℕ) → List Event → ℕ → Value → Type 0
IsValue opening events q v = IsStored opening events q v ⊎ IsNone opening events q v

-- it is got after it is put
pub lasts : (opening : List (List ℕ)) (events : List Event) (q : ℕ) (v : Value) → IsRight opening events → IsStored opening events q v
    → v.put_from < v.got_till
lasts opening events q v right s =
    let x = s.put_from in let y = s.got_till in
    let f = fresh_span opening events q s.name s.a s.b s.c s.d right s.spans in omega arith

pub stored_trimmed : (opening : List (List ℕ)) (events : List Event) (q : ℕ) (v : Value) → IsRight opening events → IsStored opening events q v → IsTrimmed v
stored_trimmed opening events q v right s =
    let x = s.put_from in let y = s.put_till in let z = s.got_from in let w = s.got_till in
    let f = fresh_span opening events q s.name s.a s.b s.c s.d right s.spans in
    let l = put_low opening events q s.name s.a s.b s.spans.put in
    let g = got_low opening events s.name s.c s.d s.spans.got in
    record { put = omega arith; got = omega arith; begins = omega arith; ends = omega arith }

none_trimmed : (opening : List (List ℕ)) (events : List Event) (q : ℕ) (v : Value) → IsNone opening events q v → IsTrimmed v
none_trimmed opening events q v n =
    let x = n.put_from in let y = n.put_till in let z = n.got_from in let w = n.got_till in
    record { put = omega arith; got = omega arith; begins = omega arith; ends = omega arith }

agree : (opening : List (List ℕ)) (events : List Event) (q : ℕ) (u v : Value) → IsRight opening events → IsComplete events
    → IsValue opening events q u → IsValue opening events q v → Agree u v
agree opening events q u v right complete (inl s) (inl t) =
    let x = s.put_till in let y = s.got_from in let z = t.put_from in let w = t.got_till in
    elim (cases_lt u.put_till v.put_from) [
      | inr le ↦ inl le
      | inl lt ↦ elim (cases_lt v.got_till u.got_from) [
        | inr le ↦ inr le
        | inl gt ↦ absurd (puts_agree opening events q s.name t.name s.a s.b s.c s.d t.a t.b t.c t.d right complete s.spans t.spans s.top
            (omega arith) (omega arith))
      ]
    ]
agree opening events q u v right complete (inl s) (inr n) =
    let x = s.put_till in let y = s.got_from in let z = n.put_from in let w = n.got_till in
    elim (cases_lt u.put_till v.put_from) [
      | inr le ↦ inl le
      | inl lt ↦ elim (cases_lt v.got_till u.got_from) [
        | inr le ↦ inr le
        | inl gt ↦ absurd (nothing_agrees opening events q n.m s.name s.a s.b s.c s.d right complete n.claimed s.spans (omega arith) (omega arith))
      ]
    ]
agree opening events q u v right complete (inr n) (inl t) =
    let x = n.put_till in let y = n.got_from in
    let l = lasts opening events q v right t in
    elim (cases_lt u.put_till v.put_from) [ inr le ↦ inl le | inl lt ↦ inr (omega arith) ]
agree opening events q u v right complete (inr n) (inr o) =
    let x = n.put_till in let y = n.got_from in let z = o.put_from in let w = o.got_till in
    elim (cases_lt u.put_till v.put_from) [ inr le ↦ inl le | inl lt ↦ inr (omega arith) ]

pub are_fair : (opening : List (List ℕ)) (events : List Event) (q : ℕ) (vs : List Value) → IsRight opening events → IsComplete events
    → ((v : Value) → StandsIn vs v → IsValue opening events q v) → AreFair vs
are_fair opening events q vs right complete each = record {
  trimmed = λ v h. elim (each v h) [ inl s ↦ stored_trimmed opening events q v right s | inr n ↦ none_trimmed opening events q v n ];
  agree = λ u v h k. agree opening events q u v right complete (each u h) (each v k);
}

-- whose put starts so is a value
pub record Sourced (opening : List (List ℕ)) (events : List Event) (q : ℕ) (source : Member) : Type 0 where
  pub value : Value
  pub is : IsValue opening events q value
  pub here : value.source ≡ source

-- of a put: where it is got, if it is
record Taken (opening : List (List ℕ)) (events : List Event) (name : PutName) : Type 0 where
  pub c : ℕ
  pub d : ℕ
  pub taker : Option ℕ
  pub got : IsGotWithin opening events name c d ⊎ NeverGot opening events name c d
  pub by : (v : Value) → v.taker ≡ taker → IsTakenBy opening events name c d got v
  pub top : d ≤ event_number opening (length events)

taken : (opening : List (List ℕ)) (events : List Event) (name : PutName) → IsRight opening events → Taken opening events name
taken opening events name right = elim (decide_get events name right.aspects.lawful) [
  | inl g ↦ (
      let lt = slice_get_within events g.e (End g.get.seat _) g.get.call.ends in
      record {
        c = event_number opening g.s;
        d = event_number opening g.e;
        taker = Some g.s;
        got = inl (record { s = g.s; e = g.e; get = g.get; begins = refl; ends = refl });
        by = λ v h. h;
        top = omega arith;
      })
  | inr n ↦ record {
    c = event_number opening (length events);
    d = event_number opening (length events);
    taker = None;
    got = inr (record { none = n; begins = refl; ends = refl });
    by = λ v h. h;
    top = omega arith;
  }
]

pub token_value : (opening : List (List ℕ)) (events : List Event) (j : ℕ) (content : List ℕ) → IsRight opening events → slice_get opening j ≡ Some content
    → Sourced opening events 0 (token j)
token_value opening events j content right at =
    let t = taken opening events (Opening j) right in
    let lt = slice_get_within opening j content at in
    let v : Value = record {
      source = token j;
      taker = t.taker;
      entry = (Opening j, content);
      put_from = j + j;
      put_till = min (j + j) t.d;
      got_from = max t.c (j + j);
      got_till = t.d;
    } in
    record {
      value = v;
      is = inl (record {
        name = Opening j;
        a = j + j;
        b = j + j;
        c = t.c;
        d = t.d;
        spans = record { put = (refl, lt, refl, refl); got = t.got };
        put_by = (refl, content, at, refl);
        taken_by = t.by v refl;
        top = t.top;
        put_from = refl;
        put_till = refl;
        got_from = refl;
        got_till = refl;
      });
      here = refl;
    }

pub put_value : (opening : List (List ℕ)) (events : List Event) (q s e seat : ℕ) (content : List ℕ) → IsRight opening events
    → IsCall events seat (Put q content) s e Done → Sourced opening events q (call_at s)
put_value opening events q s e seat content right call =
    let name : PutName = Of seat (suc (puts_before events seat s)) in
    let t = taken opening events (Of seat (suc (puts_before events seat s))) right in
    let done : IsDoneAt events q e seat (suc (puts_before events seat s)) =
    record { s = s; content = content; put = record { starts = call.starts; counted = refl }; call = call } in
    let v : Value = record {
      source = call_at s;
      taker = t.taker;
      entry = (Of seat (suc (puts_before events seat s)), content);
      put_from = event_number opening s;
      put_till = min (event_number opening e) t.d;
      got_from = max t.c (event_number opening s);
      got_till = t.d;
    } in
    record {
      value = v;
      is = inl (record {
        name = Of seat (suc (puts_before events seat s));
        a = event_number opening s;
        b = event_number opening e;
        c = t.c;
        d = t.d;
        spans = record { put = (e, done, refl, refl); got = t.got };
        put_by = (refl, refl);
        taken_by = t.by v refl;
        top = t.top;
        put_from = refl;
        put_till = refl;
        got_from = refl;
        got_till = refl;
      });
      here = refl;
    }

pub none_value : (opening : List (List ℕ)) (events : List Event) (q s e seat : ℕ) → IsRight opening events
    → IsCall events seat (Get q) s e Nothing → Sourced opening events q (call_at s)
none_value opening events q s e seat right call =
    let w = right.aspects.empty_right e s seat q call in
    record {
      value = record {
        source = call_at s;
        taker = None;
        entry = (Opening 0, []);
        put_from = moment_number opening w.0;
        put_till = moment_number opening w.0;
        got_from = moment_number opening w.0;
        got_till = moment_number opening w.0;
      };
      is = inr (record {
        s = s;
        e = e;
        seat = seat;
        m = w.0;
        call = call;
        low = w.1;
        high = w.2;
        claimed = w.3;
        source = refl;
        taker = refl;
        put_from = refl;
        put_till = refl;
        got_from = refl;
        got_till = refl;
      });
      here = refl;
    }
