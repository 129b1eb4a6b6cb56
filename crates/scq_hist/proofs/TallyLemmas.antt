-- A tally grows by one put at a time. Plan: a put has one get, and ends with Done at one position, so the put that ends at position e
-- is new there; then it is one more that isn't got, or its get's Start moves the moment from which all are claimed
use Rattle.std.proofs.Common.{◌≡◌, ℕ, ◌+◌, ◌⊎◌, inl, inr, List, Some, sym, subst, arith}
use Rattle.std.proofs.lemmas.Bool.{cases_order, cases_lt, cases_eq}
use Rattle.scq_hist.specs.Exports.{under_way, IsDoneAt, IsFinishedAt, Names, IsGot, IsGetOf, IsCount, EndsDone, NoDoneAt, IsTally, AddsUngot, AddsGot}
use Rattle.scq_hist.specs.Exports.{AddsPut}
use Rattle.scq_hist.specs.declared.events.Event.{Event}
use Rattle.scq_hist.specs.declared.events.PutName.{PutName}
use Rattle.scq_hist.specs.declared.events.PutName.TheVariants.{Opening, Of}
use Rattle.scq_hist.specs.declared.events.Reply.TheVariants.{Done}
use Rattle.scq_hist.proofs.Counting.{count_more, count_same}
use Rattle.scq_hist.proofs.UnderWay.{one_end}
use Rattle.scq_hist.proofs.Puts.{same_put}

pub names_from_get : (events : List Event) (name : PutName) (s e : ℕ) → IsGetOf events name s e → Names events e name
names_from_get events name s e g = record { seat = g.seat; content = g.content; ends = g.call.ends }

-- a put has one get
pub same_end : (events : List Event) (name : PutName) (s t d e : ℕ) → IsGetOf events name s d → IsGetOf events name t e → d ≡ e
same_end events name s t d e g h =
    elim (cases_order d e) [
      | inl same ↦ same
      | inr w ↦ elim w [
        | inl lt ↦ absurd (h.first d lt (names_from_get events name s d g))
        | inr lt ↦ absurd (g.first e lt (names_from_get events name t e h))
      ]
    ]

pub one_get : (events : List Event) (name : PutName) (s t d e : ℕ) → IsGetOf events name s d → IsGetOf events name t e → s ≡ t
one_get events name s t d e g h =
    let end = same_end events name s t d e g h in
    let x = g.call.ends in let y = h.call.ends in
    let seat : g.seat ≡ h.seat = cc in
    let u = g.call.under_way_till in let v = h.call.under_way_till in cc

pub tally_same : (events : List Event) (P Q : PutName → Type 0) (u f : ℕ) → IsTally events P u f → ((name : PutName) → P name → Q name)
    → ((name : PutName) → Q name → P name) → IsTally events Q u f
tally_same events P Q u f t to from = record {
  ungot = count_same _ _ u t.ungot (λ name h. (to name h.0, h.1)) (λ name h. (from name h.0, h.1));
  claimed = λ name s e q g. t.claimed name s e (from name q) g;
  least = λ m lt. (let l = t.least m lt in record { name = l.name; s = l.s; e = l.e; put = to l.name l.put; get = l.get; late = l.late });
}

tally_ungot : (events : List Event) (P Q : PutName → Type 0) (x : PutName) (u f v g : ℕ) → IsTally events P u f → (P x → ⊥) → Q x
    → ((name : PutName) → P name → Q name) → ((name : PutName) → Q name → (x ≡ name) ⊎ P name)
    → AddsUngot events x u f v g → IsTally events Q v g
tally_ungot events P Q x u f v g t new here to split a =
    let more = a.more in let same = a.same in
    let free : (name : PutName) → x ≡ name → ¬ IsGot events name = λ name e. subst (λ z. ¬ IsGot events z) e a.ungot in
    record {
      ungot = subst (λ n. IsCount (λ name. Q name × (¬ IsGot events name)) n) (sym a.more)
          (count_more (λ name. P name × (¬ IsGot events name)) (λ name. Q name × (¬ IsGot events name)) x u t.ungot
          (λ h. new h.0) (here, a.ungot) (λ name h. (to name h.0, h.1))
          (λ name h. elim (split name h.0) [ inl e ↦ inl e | inr p ↦ inr (p, h.1) ]));
      claimed = λ name s e q get. elim (split name q) [
        | inl is ↦ absurd (free name is (e, names_from_get events name s e get))
        | inr p ↦ (let lt = t.claimed name s e p get in omega arith)
      ];
      least = λ m lt. (let l = t.least m (omega arith) in
          record { name = l.name; s = l.s; e = l.e; put = to l.name l.put; get = l.get; late = l.late });
    }

tally_got : (events : List Event) (P Q : PutName → Type 0) (x : PutName) (u f v g : ℕ) → IsTally events P u f → (P x → ⊥) → Q x
    → ((name : PutName) → P name → Q name) → ((name : PutName) → Q name → (x ≡ name) ⊎ P name)
    → AddsGot events x u f v g → IsTally events Q v g
tally_got events P Q x u f v g t new here to split a =
    let later = a.later in
    record {
      ungot = subst (λ n. IsCount (λ name. Q name × (¬ IsGot events name)) n) (sym a.same)
          (count_same (λ name. P name × (¬ IsGot events name)) (λ name. Q name × (¬ IsGot events name)) u t.ungot
          (λ name h. (to name h.0, h.1))
          (λ name h. elim (split name h.0) [
            | inl e ↦ absurd (subst (λ z. ¬ IsGot events z) (sym e) h.1 (a.e, names_from_get events x a.s a.e a.get))
            | inr p ↦ (p, h.1)
          ]));
      claimed = λ name s e q get. elim (split name q) [
        | inl is ↦ (let start = one_get events name s a.s e a.e get (subst (λ z. IsGetOf events z a.s a.e) is a.get) in omega arith)
        | inr p ↦ (let lt = t.claimed name s e p get in omega arith)
      ];
      least = λ m lt. elim (cases_lt m f) [
        | inl lf ↦ (let l = t.least m lf in record { name = l.name; s = l.s; e = l.e; put = to l.name l.put; get = l.get; late = l.late })
        | inr le ↦ record { name = x; s = a.s; e = a.e; put = here; get = a.get; late = omega arith }
      ];
    }

pub tally_more : (events : List Event) (P Q : PutName → Type 0) (x : PutName) (u f v g : ℕ) → IsTally events P u f → (P x → ⊥) → Q x
    → ((name : PutName) → P name → Q name) → ((name : PutName) → Q name → (x ≡ name) ⊎ P name)
    → AddsPut events x u f v g → IsTally events Q v g
tally_more events P Q x u f v g t new here to split (inl a) = tally_ungot events P Q x u f v g t new here to split a
tally_more events P Q x u f v g t new here to split (inr a) = tally_got events P Q x u f v g t new here to split a

-- a put ends with Done at one position
one_done : (events : List Event) (queue d e seat number : ℕ) → IsDoneAt events queue d seat number → IsDoneAt events queue e seat number → d ≡ e
one_done events queue d e seat number a b =
    let start = (same_put events seat number queue queue a.s b.s a.content b.content a.put b.put).start in
    one_end events seat a.s d e Done Done a.call.under_way_till a.call.ends (subst (λ s. under_way events seat e ≡ Some s) (sym start) b.call.under_way_till)
    b.call.ends

-- at one position ends one put
one_put : (events : List Event) (queue e k m seat number : ℕ) → IsDoneAt events queue e k m → IsDoneAt events queue e seat number → Of k m ≡ Of seat number
one_put events queue e k m seat number a b =
    let x = a.call.ends in let y = b.call.ends in
    let seats : k ≡ seat = cc in
    let u = a.call.under_way_till in let v = b.call.under_way_till in
    let start : a.s ≡ b.s = cc in
    let p = a.put.counted in let q = b.put.counted in cc

finished_later : (opening : List (List ℕ)) (events : List Event) (queue e : ℕ) (name : PutName)
    → IsFinishedAt opening events queue e name → IsFinishedAt opening events queue (e + 1) name
finished_later opening events queue e (Opening number) h = h
finished_later opening events queue e (Of seat number) h = (let lt = h.1 in (h.0, omega arith, h.2))

finished_split : (opening : List (List ℕ)) (events : List Event) (queue e : ℕ) (x name : PutName) → EndsDone events queue e x
    → IsFinishedAt opening events queue (e + 1) name → (x ≡ name) ⊎ IsFinishedAt opening events queue e name
finished_split opening events queue e (Opening k) name done h = absurd done
finished_split opening events queue e (Of k m) (Opening number) done h = inr h
finished_split opening events queue e (Of k m) (Of seat number) done h =
    elim (cases_eq h.0 e) [
      | inl here ↦ inl (one_put events queue e k m seat number done (subst (λ d. IsDoneAt events queue d seat number) here h.2))
      | inr ne ↦ (let lt = h.1 in inr (h.0, omega arith, h.2))
    ]

finished_new : (opening : List (List ℕ)) (events : List Event) (queue e : ℕ) (x : PutName) → EndsDone events queue e x → IsFinishedAt opening events queue e x
    → ⊥
finished_new opening events queue e (Opening k) done h = done
finished_new opening events queue e (Of k m) done h = let lt = h.1 in let same = one_done events queue h.0 e k m h.2 done in omega arith

finished_here : (opening : List (List ℕ)) (events : List Event) (queue e : ℕ) (x : PutName) → EndsDone events queue e x
    → IsFinishedAt opening events queue (e + 1) x
finished_here opening events queue e (Opening k) done = absurd done
finished_here opening events queue e (Of k m) done = (e, omega arith, done)

finished_no_more : (opening : List (List ℕ)) (events : List Event) (queue e : ℕ) (name : PutName) → NoDoneAt events queue e
    → IsFinishedAt opening events queue (e + 1) name → IsFinishedAt opening events queue e name
finished_no_more opening events queue e (Opening number) free h = h
finished_no_more opening events queue e (Of seat number) free h =
    elim (cases_eq h.0 e) [
      | inl here ↦ absurd (free.none seat number (subst (λ d. IsDoneAt events queue d seat number) here h.2))
      | inr ne ↦ (let lt = h.1 in (h.0, omega arith, h.2))
    ]

pub finished_more : (opening : List (List ℕ)) (events : List Event) (queue e u f v g : ℕ) (x : PutName) → EndsDone events queue e x → AddsPut events x u f v g
    → IsTally events (IsFinishedAt opening events queue e) u f → IsTally events (IsFinishedAt opening events queue (e + 1)) v g
finished_more opening events queue e u f v g x done a t =
    tally_more events (IsFinishedAt opening events queue e) (IsFinishedAt opening events queue (e + 1)) x u f v g t
    (finished_new opening events queue e x done) (finished_here opening events queue e x done)
    (finished_later opening events queue e) (λ name h. finished_split opening events queue e x name done h) a

pub finished_same : (opening : List (List ℕ)) (events : List Event) (queue e u f : ℕ) → NoDoneAt events queue e
    → IsTally events (IsFinishedAt opening events queue e) u f → IsTally events (IsFinishedAt opening events queue (e + 1)) u f
finished_same opening events queue e u f free t =
    tally_same events (IsFinishedAt opening events queue e) (IsFinishedAt opening events queue (e + 1)) u f t
    (finished_later opening events queue e) (λ name h. finished_no_more opening events queue e name free h)

pub tokens_of_queue : (opening : List (List ℕ)) (events : List Event) (queue u f : ℕ) → queue ≡ 0
    → IsTally events (IsFinishedAt opening events 0 0) u f → IsTally events (IsFinishedAt opening events queue 0) u f
tokens_of_queue opening events queue u f is t = subst (λ q. IsTally events (IsFinishedAt opening events q 0) u f) (sym is) t
