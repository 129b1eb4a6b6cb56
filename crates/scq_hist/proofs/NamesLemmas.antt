-- What an End with Got names
use Rattle.std.proofs.Common.{◌≡◌, ℕ, ◌<◌, ◌↔◌, true, false, eqb, IsTrue, MatchOption, List, Option, Some, None, slice_get, length, get_or, refl, sym, ap, ◌∙◌, subst, arith}
use Rattle.std.specs.Option.{option_eq}
use Rattle.std.proofs.lemmas.Bool.Decides.{nat_tests}
use Rattle.std.proofs.lemmas.Option.{slice_get_read}
use Rattle.scq_hist.specs.Exports.{under_way, Names, IsGot, IsGetOf, IsLawful, IsLawfulAt, IsOnceAt, IsAnswer, SuitsCall, got_name, call_start}
use Rattle.scq_hist.specs.Exports.{IsFirstNamed, EndsNoGet}
use Rattle.scq_hist.specs.declared.events.Call.{Call}
use Rattle.scq_hist.specs.declared.events.Call.TheVariants.{Put, Get}
use Rattle.scq_hist.specs.declared.events.Event.{Event}
use Rattle.scq_hist.specs.declared.events.Event.TheVariants.{Start, End}
use Rattle.scq_hist.specs.declared.events.PutName.{PutName}
use Rattle.scq_hist.specs.declared.events.Reply.TheVariants.{Done, Got, Nothing, Spent}

pub names_there : (events : List Event) (e : ℕ) (event : Event) (name : PutName) → slice_get events e ≡ Some event → got_name event ≡ Some name
    → Names events e name
names_there events e (Start k c) name at h = absurd cc
names_there events e (End k Done) name at h = absurd cc
names_there events e (End k (Got m c)) name at h = record { seat = k; content = c; ends = (let same : m ≡ name = cc in cc) }
names_there events e (End k Nothing) name at h = absurd cc
names_there events e (End k Spent) name at h = absurd cc

pub named_there : (events : List Event) (e : ℕ) (event : Event) (name : PutName) → slice_get events e ≡ Some event → Names events e name
    → got_name event ≡ Some name
named_there events e event name at n =
    let ends = n.ends in
    let same : event ≡ End n.seat (Got name n.content) = cc in
    ap got_name same

-- an element that a loop reads
pub read : (events : List Event) (i : ℕ) (event seen : Event) → i < length events → seen ≡ get_or events i seen → seen ≡ event → slice_get events i ≡ Some event
read events i event seen lt is e = slice_get_read events (length events) i seen refl lt is ∙ ap Some e

pub names_read : (events : List Event) (e : ℕ) (event : Event) (name : PutName) → e < length events → event ≡ get_or events e event
    → Some name ≡ got_name event → Names events e name
names_read events e event name lt is named = names_there events e event name (read events e event event lt is refl) (sym named)

-- one End names one put
pub same_name : (events : List Event) (e : ℕ) (a b : PutName) → Names events e a → Names events e b → a ≡ b
same_name events e a b n m = let x = n.ends in let y = m.ends in cc

-- where the first End that names the put is at f, the one at e names it newly exactly where f is e
pub first_is_new : (events : List Event) (e : ℕ) (name : PutName) (r : Option ℕ) → Names events e name
    → MatchOption r (¬ IsGot events name) (IsFirstNamed events name) → IsTrue (option_eq eqb r (Some e)) ↔ IsOnceAt events e
first_is_new events e name None n h = absurd (h (e, n))
first_is_new events e name (Some f) n h = (
  λ t m d at lt before.
      let here : f ≡ e = grind (arith, nat_tests) in
      let same : m ≡ name = same_name events e m name at n in
      h.first d (omega arith) (subst (λ x. Names events d x) same before),
  λ w. let past : (f < e → ⊥) = λ lt. w name f n lt h.names in
      let none : (e < f → ⊥) = λ lt. h.first e lt n in
      let here : f ≡ e = omega arith in grind (arith, nat_tests),
)

suits_got : (call : Call) (name : PutName) (content : List ℕ) → SuitsCall call (Got name content) → (queue : ℕ) × (call ≡ Get queue)
suits_got (Put q c) name content h = absurd h
suits_got (Get q) name content h = (q, refl)

-- the call that ends with the first Got of a put is its get
pub get_from_first : (events : List Event) (name : PutName) (s e : ℕ) → IsLawful events → IsFirstNamed events name e
    → Some s ≡ call_start events e (slice_get events e) → IsGetOf events name s e
get_from_first events name s e lawful first start =
    let n = first.names in
    let ends : slice_get events e ≡ Some (End n.seat (Got name n.content)) = n.ends in
    let answer : IsAnswer events n.seat e (Got name n.content) = subst (λ event. IsLawfulAt events e event) ends (lawful e) in
    let started : Some s ≡ under_way events n.seat e = subst (λ event. Some s ≡ call_start events e event) ends start in
    let call = answer.is_call in
    let get = suits_got answer.call name n.content answer.suits in
    record {
      seat = n.seat;
      queue = get.0;
      content = n.content;
      call = record {
        starts = (let x = call.starts in let y = call.under_way_till in let same : answer.s ≡ s = cc in let is = get.1 in cc);
        under_way_till = sym started;
        ends = ends;
      };
      first = first.first;
    }

-- a get that ends where the first End names another put has got none
no_get : (events : List Event) (e : ℕ) (name : PutName) (r : Option ℕ) → Names events e name
    → MatchOption r (¬ IsGot events name) (IsFirstNamed events name) → option_eq eqb r (Some e) ≡ false → EndsNoGet events e
no_get events e name r n h other = record {
  none = λ m s get.
      let there : Names events e m = record { seat = get.seat; content = get.content; ends = get.call.ends } in
      let new : IsOnceAt events e =
      λ z d at lt before. get.first d lt (subst (λ x. Names events d x) (same_name events e z m at there) before) in
      let same = (first_is_new events e name r n h).1 new in absurd cc;
}

first_here : (events : List Event) (e : ℕ) (name : PutName) (r : Option ℕ) → Names events e name
    → MatchOption r (¬ IsGot events name) (IsFirstNamed events name) → option_eq eqb r (Some e) ≡ true → IsFirstNamed events name e
first_here events e name r n h same =
    record { names = n; first = λ d lt. (λ before. ((first_is_new events e name r n h).0 same name d n lt before)) }

-- the event that is read there names the put newly, or it doesn't
pub first_read : (events : List Event) (e : ℕ) (event : Event) (name : PutName) (r : Option ℕ) → e < length events → event ≡ get_or events e event
    → Some name ≡ got_name event → MatchOption r (¬ IsGot events name) (IsFirstNamed events name) → IsTrue (option_eq eqb r (Some e)) → IsFirstNamed events name e
first_read events e event name r lt is named first same = first_here events e name r (names_read events e event name lt is named) first same

pub no_get_read : (events : List Event) (e : ℕ) (event : Event) (name : PutName) (r : Option ℕ) → e < length events → event ≡ get_or events e event
    → Some name ≡ got_name event → MatchOption r (¬ IsGot events name) (IsFirstNamed events name) → option_eq eqb r (Some e) ≡ false → EndsNoGet events e
no_get_read events e event name r lt is named first other = no_get events e name r (names_read events e event name lt is named) first other
