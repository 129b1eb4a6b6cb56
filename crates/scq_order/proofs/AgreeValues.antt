-- Of a right, complete history any two values of a queue agree: it is not so that one was put before the other and got behind it.
-- Numbers: the event at position i has 2(K + i) + 2, moment m has 2(K + m) + 1, token j has 2j, and what never happens has the last
use Rattle.std.proofs.Common.{◌≡◌, ℕ, ◌+◌, ◌<◌, ◌≤◌, ◌⊎◌, inl, inr, List, length, refl, sym, ◌∙◌, arith}
use Rattle.std.specs.Prelude.{min, max}
use Rattle.std.proofs.lemmas.Bool.{cases_lt}
use Rattle.std.proofs.lemmas.Option.{slice_get_within, none-some}
use Rattle.scq_hist.specs.Exports.{IsDoneAt, IsFinishedAt, IsGot, IsGetOf, IsGotBefore, AllClaimed}
use Rattle.scq_order.specs.Exports.{IsComplete, IsRight}
use Rattle.scq_hist.specs.declared.events.Call.TheVariants.{Put}
use Rattle.scq_hist.specs.declared.events.Event.{Event}
use Rattle.scq_hist.specs.declared.events.Event.TheVariants.{Start}
use Rattle.scq_hist.specs.declared.events.PutName.{PutName}
use Rattle.scq_hist.specs.declared.events.PutName.TheVariants.{Opening, Of}
use Rattle.scq_hist.proofs.TallyLemmas.{names_from_get, one_get}
use Rattle.scq_hist.proofs.Puts.{same_put}
use Rattle.scq_hist.proofs.UnderWay.{started}

abbrev pub event_number : List (List ℕ) → ℕ → ℕ
event_number opening i = (length opening + i) + (length opening + i) + 2

abbrev pub moment_number : List (List ℕ) → ℕ → ℕ
moment_number opening m = (length opening + m) + (length opening + m) + 1

-- the put of this name lies between these
abbrev pub PutSpan : List (List ℕ) → List Event → ℕ → PutName → ℕ → ℕ → Type 0
PutSpan opening events q (Opening j) from till = (q ≡ 0) × (j < length opening) × (from ≡ j + j) × (till ≡ j + j)
PutSpan opening events q (Of k n) from till =
    (e : ℕ) × (done : IsDoneAt events q e k n) × (from ≡ event_number opening done.s) × (till ≡ event_number opening e)

-- its get between these
pub record IsGotWithin (opening : List (List ℕ)) (events : List Event) (name : PutName) (from till : ℕ) : Type 0 where
  pub s : ℕ
  pub e : ℕ
  pub get : IsGetOf events name s e
  pub begins : from ≡ event_number opening s
  pub ends : till ≡ event_number opening e

pub record NeverGot (opening : List (List ℕ)) (events : List Event) (name : PutName) (from till : ℕ) : Type 0 where
  pub none : ¬ IsGot events name
  pub begins : from ≡ event_number opening (length events)
  pub ends : till ≡ event_number opening (length events)

pub record Spans (opening : List (List ℕ)) (events : List Event) (q : ℕ) (name : PutName) (put_from put_till got_from got_till : ℕ) : Type 0 where
  pub put : PutSpan opening events q name put_from put_till
  pub got : IsGotWithin opening events name got_from got_till ⊎ NeverGot opening events name got_from got_till

-- in a complete history what is claimed is got by a get that started before
claimed_got : (events : List Event) (q m : ℕ) (P : PutName → Type 0) → IsComplete events → AllClaimed events q m P → (name : PutName) → P name → IsGotBefore events m name
claimed_got events q m P complete all name p = elim (all.claimed name p) [
  | inl g ↦ g
  | inr free ↦ (let w = all.matched.into name (p, free) in absurd (none-some _ (sym (complete w.seat) ∙ w.under_way_still)))
]

-- so its span begins before the number of that position or moment
span_before : (opening : List (List ℕ)) (events : List Event) (name : PutName) (from till m : ℕ) → IsGotWithin opening events name from till ⊎ NeverGot opening events name from till
    → IsGotBefore events m name → from + 2 ≤ event_number opening m
span_before opening events name from till m (inl w) g =
    let same = one_get events name w.s g.s w.e g.e w.get g.get in let lt = g.before in let b = w.begins in omega arith
span_before opening events name from till m (inr n) g = absurd (n.none (g.e, names_from_get events name g.s g.e g.get))

pub put_low : (opening : List (List ℕ)) (events : List Event) (q : ℕ) (name : PutName) (from till : ℕ) → PutSpan opening events q name from till → from ≤ till
put_low opening events q (Opening j) from till p = let a = p.2 in let b = p.3 in omega arith
put_low opening events q (Of k n) from till p = let a = p.2 in let b = p.3 in
    let lt = (started events k p.0 p.1.s p.1.call.under_way_till).before in omega arith

-- fresh: a put begins before its get ends
fresh_parts : (opening : List (List ℕ)) (events : List Event) (q : ℕ) (name : PutName) (pf pt gf gt : ℕ) → IsRight opening events
    → PutSpan opening events q name pf pt → IsGotWithin opening events name gf gt ⊎ NeverGot opening events name gf gt → pf < gt
fresh_parts opening events q (Opening j) pf pt gf gt right p (inl w) = let a = p.1 in let b = p.2 in let c = w.ends in omega arith
fresh_parts opening events q (Opening j) pf pt gf gt right p (inr n) = let a = p.1 in let b = p.2 in let c = n.ends in omega arith
fresh_parts opening events q (Of k n) pf pt gf gt right p (inl w) =
    let f = right.aspects.fresh w.e w.s w.get.seat w.get.queue (Of k n) w.get.content w.get.call in
    let same = (same_put events k n q w.get.queue p.1.s f.0 p.1.content w.get.content p.1.put f.2).start in
    let lt = f.1 in let a = p.2 in let c = w.ends in omega arith
fresh_parts opening events q (Of k n) pf pt gf gt right p (inr m) =
    let lt = slice_get_within events p.1.s (Start k (Put q p.1.content)) p.1.put.starts in let a = p.2 in let c = m.ends in omega arith

pub fresh_span : (opening : List (List ℕ)) (events : List Event) (q : ℕ) (name : PutName) (pf pt gf gt : ℕ) → IsRight opening events
    → Spans opening events q name pf pt gf gt → pf < gt
fresh_span opening events q name pf pt gf gt right s = fresh_parts opening events q name pf pt gf gt right s.put s.got

pub got_low : (opening : List (List ℕ)) (events : List Event) (u : PutName) (c d : ℕ) → IsGotWithin opening events u c d ⊎ NeverGot opening events u c d → c ≤ d
got_low opening events u c d (inl w) =
    let x = w.begins in let y = w.ends in let lt = (started events w.get.seat w.e w.s w.get.call.under_way_till).before in omega arith
got_low opening events u c d (inr n) = let x = n.begins in let y = n.ends in omega arith

-- what is put before v and v is got: its get begins before v's ends
in_turn_spans : (opening : List (List ℕ)) (events : List Event) (q : ℕ) (u v : PutName) (a b c d e f g h : ℕ) → IsRight opening events → IsComplete events
    → Spans opening events q u a b c d → PutSpan opening events q v e f → IsGotWithin opening events v g h → b < e → c < h
in_turn_spans opening events q (Opening i) (Opening j) a b c d e f g h right complete u v w lt =
    let x = u.put.3 in let y = v.2 in let z = w.ends in
    let less : i < j = omega arith in
    let got = claimed_got events 0 w.e _ complete (right.tokens j w.s w.e v.1 w.get) (Opening i) (i, less, refl) in
    let r = span_before opening events (Opening i) c d w.e u.got got in omega arith
in_turn_spans opening events q (Of k n) (Opening j) a b c d e f g h right complete u v w lt =
    let x = u.put.3 in let y = v.2 in let z = v.1 in absurd (omega arith)
in_turn_spans opening events q (Opening i) (Of k n) a b c d e f g h right complete u v w lt =
    let z = w.ends in
    let got = claimed_got events q w.e _ complete (right.aspects.in_order w.e w.s k n q v.1.s v.1.content w.get v.1.put) (Opening i) (u.put.0, u.put.1) in
    let r = span_before opening events (Opening i) c d w.e u.got got in omega arith
in_turn_spans opening events q (Of l m) (Of k n) a b c d e f g h right complete u v w lt =
    let z = w.ends in let x = u.put.3 in let y = v.2 in
    let before : u.put.0 < v.1.s = omega arith in
    let got = claimed_got events q w.e _ complete (right.aspects.in_order w.e w.s k n q v.1.s v.1.content w.get v.1.put) (Of l m) (u.put.0, before, u.put.1) in
    let r = span_before opening events (Of l m) c d w.e u.got got in omega arith

-- of two puts, trimmed: u's put ends at the latest with its get, its get begins at the earliest with its put
pub puts_agree : (opening : List (List ℕ)) (events : List Event) (q : ℕ) (u v : PutName) (a b c d e f g h : ℕ) → IsRight opening events → IsComplete events
    → Spans opening events q u a b c d → Spans opening events q v e f g h → d ≤ event_number opening (length events) → min b d < e → h < max c a → ⊥
puts_agree opening events q u v a b c d e f g h right complete su sv top first second =
    let x = fresh_span opening events q u a b c d right su in
    let y = fresh_span opening events q v e f g h right sv in
    let low = put_low opening events q u a b su.put in
    let cd = got_low opening events u c d su.got in
    elim sv.got [
      | inl w ↦ elim (cases_lt b e) [
        | inl lt ↦ (let r = in_turn_spans opening events q u v a b c d e f g h right complete su sv.put w lt in omega arith)
        | inr le ↦ omega arith
      ]
      | inr n ↦ (let z = n.ends in omega arith)
    ]

-- and a Nothing at moment m agrees with each put
pub nothing_agrees : (opening : List (List ℕ)) (events : List Event) (q m : ℕ) (u : PutName) (a b c d : ℕ) → IsRight opening events → IsComplete events
    → AllClaimed events q m (IsFinishedAt opening events q m) → Spans opening events q u a b c d → min b d < moment_number opening m → moment_number opening m < max c a → ⊥
nothing_agrees opening events q m u a b c d right complete all su first second =
    let x = fresh_span opening events q u a b c d right su in
    let low = put_low opening events q u a b su.put in
    let cd = got_low opening events u c d su.got in
    elim (cases_lt b (moment_number opening m)) [
      | inl lt ↦ (let r = span_before opening events u c d m su.got (claimed_got events q m _ complete all u (finished u su.put lt)) in omega arith)
      | inr le ↦ omega arith
    ]
  where
    finished : (u : PutName) → PutSpan opening events q u a b → b < moment_number opening m → IsFinishedAt opening events q m u
    finished (Opening j) p lt = (p.0, p.1)
    finished (Of k n) p lt = let z = p.3 in (p.0, (omega arith), p.1)
