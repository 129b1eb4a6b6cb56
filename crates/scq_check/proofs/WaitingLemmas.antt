-- Puts that wait
use Rattle.std.proofs.Common.{◌≡◌, ℕ, suc, ◌<◌, ◌≤◌, ◌↔◌, ◌^◌, Bool, true, false, IsTrue, inl, inr, List, Option, Some, None, length, refl, sym, ap, subst, ◌∙◌, arith}
use Rattle.std.specs.Prelude.{IfSome, MatchOption}
use Rattle.std.proofs.lemmas.Bool.{cases_lt}
use Rattle.std.proofs.lemmas.Option.{slice_get_within}
use Rattle.scq_hist.specs.Exports.{puts_before, IsGot, IsGetOf, IsGotBefore, IsFirstFailing, EndsDone, NoDoneAt, IsFirstNamed}
use Rattle.scq_hist.specs.declared.events.Event.{Event}
use Rattle.scq_hist.specs.declared.events.PutName.{PutName}
use Rattle.scq_hist.specs.declared.events.PutName.TheVariants.{Opening, Of}
use Rattle.scq_hist.proofs.TallyLemmas.{names_from_get, one_get}
use Rattle.scq_check.specs.Exports.{IsLeftOut, IsTokenLeftOut, IsPutLeftOut, IsToldPut, told_of}
use Rattle.scq_check.specs.declared.waiting.Sought.{Sought}
use Rattle.scq_check.specs.declared.waiting.Sought.TheVariants.{Every, GotLater}

-- at most one put ends with Done at a position
pub one_done : (events : List Event) (queue d : ℕ) (a b : PutName) → EndsDone events queue d a → EndsDone events queue d b → a ≡ b
one_done events queue d (Opening i) b x y = absurd x
one_done events queue d (Of k n) (Opening j) x y = absurd y
one_done events queue d (Of k n) (Of l m) x y =
    let p = x.call.ends in let q = y.call.ends in
    let seats : k ≡ l = cc in
    let u = x.call.under_way_till in let v = y.call.under_way_till in
    let starts : x.s ≡ y.s = cc in
    let numbers : n ≡ m = x.put.counted ∙ ap (λ z. suc (puts_before events k z)) starts ∙ ap (λ z. suc (puts_before events z y.s)) seats ∙ sym y.put.counted in cc

-- the one get of a put decides
taken_by : (events : List Event) (name : PutName) (s e : ℕ) (b : Bool) → ((d : ℕ) × IsGetOf events name s d) → (IsTrue b ↔ (s < e))
    → IsTrue b ↔ IsGotBefore events e name
taken_by events name s e b get test = (
  λ t. record { s = s; e = get.0; before = test.0 t; get = get.1 },
  λ h. test.1 (subst (λ z. z < e) (one_get events name h.s s h.e get.0 h.get get.1) h.before),
)

taken_by_none : (events : List Event) (name : PutName) (e : ℕ) → (¬ IsGot events name) → IsTrue false ↔ IsGotBefore events e name
taken_by_none events name e none = (λ t. absurd cc, λ h. absurd (none (h.e, names_from_get events name h.s h.e h.get)))

-- whatever is sought
pub left_out_by : (sought : Sought) (events : List Event) (name : PutName) (s e : ℕ) (b : Bool) → ((d : ℕ) × IsGetOf events name s d) → (IsTrue b ↔ (s < e))
    → IsTrue b ↔ IsLeftOut sought events e name
left_out_by Every events name s e b get test = taken_by events name s e b get test
left_out_by GotLater events name s e b get test =
    let taken = taken_by events name s e b get test in
    (λ t _. taken.0 t, λ h. taken.1 (h (get.0, names_from_get events name s get.0 get.1)))

-- nothing has got it
pub never_every : (sought : Sought) (events : List Event) (name : PutName) (e : ℕ) → sought ≡ Every → (¬ IsGot events name)
    → IsTrue false ↔ IsLeftOut sought events e name
never_every sought events name e is none =
    let L : Sought → Type 0 = λ z. IsTrue false ↔ IsLeftOut z events e name in subst L (sym is) (taken_by_none events name e none)

pub never_later : (sought : Sought) (events : List Event) (name : PutName) (e : ℕ) → sought ≡ GotLater → (¬ IsGot events name)
    → IsTrue true ↔ IsLeftOut sought events e name
never_later sought events name e is none =
    let L : Sought → Type 0 = λ z. IsTrue true ↔ IsLeftOut z events e name in subst L (sym is) (λ _ got. absurd (none got), λ _. refl)

-- so of the put that ends at a position, where one does
pub put_left_out : (sought : Sought) (events : List Event) (queue m e d : ℕ) (name : PutName) (b : Bool) → d < m → EndsDone events queue d name
    → (IsTrue b ↔ IsLeftOut sought events e name) → IsTrue b ↔ IsPutLeftOut sought events queue m e d
put_left_out sought events queue m e d name b lt done test = (
  λ t other _ ends. subst (λ z. IsLeftOut sought events e z) (one_done events queue d name other done ends) (test.0 t),
  λ h. test.1 (h name lt done),
)

pub no_put : (sought : Sought) (events : List Event) (queue m e d : ℕ) → NoDoneAt events queue d → IsPutLeftOut sought events queue m e d
no_put sought events queue m e d none (Opening i) lt ends = absurd ends
no_put sought events queue m e d none (Of k n) lt ends = absurd (none.none k n ends)

pub puts_past : (sought : Sought) (events : List Event) (queue m e d : ℕ) → m ≤ d → IsPutLeftOut sought events queue m e d
puts_past sought events queue m e d past name lt ends = absurd (omega arith)

pub tokens_past : (sought : Sought) (opening : List (List ℕ)) (events : List Event) (queue e number : ℕ) → length opening ≤ number
    → IsTokenLeftOut sought opening events queue e number
tokens_past sought opening events queue e number past small there = let lt = there.1 in absurd (omega arith)

token_small : (sought : Sought) (opening : List (List ℕ)) (events : List Event) (queue e number : ℕ) → (¬ IsTokenLeftOut sought opening events queue e number)
    → number < 2 ^ 32
token_small sought opening events queue e number fails = elim (cases_lt number (2 ^ 32)) [
  | inl lt ↦ lt
  | inr ge ↦ absurd (fails (λ small _. absurd (omega arith)))
]

pub tokens_small : (sought : Sought) (opening : List (List ℕ)) (events : List Event) (queue e : ℕ) (first : Option ℕ)
    → IsFirstFailing (IsTokenLeftOut sought opening events queue e) first → IfSome first (λ number. number < 2 ^ 32)
tokens_small sought opening events queue e None is = tt
tokens_small sought opening events queue e (Some number) is = token_small sought opening events queue e number is.0

-- what is told is within what the first are
pub told_token_within : (late_token late_put token put : Option ℕ) (m : ℕ) → IfSome late_token (λ n. n < m) → IfSome token (λ n. n < m)
    → IfSome (told_of late_token late_put token put).0 (λ n. n < m)
told_token_within (Some n) late_put token put m late first = late
told_token_within None (Some d) token put m late first = tt
told_token_within None None token put m late first = first

pub told_put_within : (late_token late_put token put : Option ℕ) (m : ℕ) → IfSome late_put (λ d. d < m) → IfSome put (λ d. d < m)
    → IfSome (told_of late_token late_put token put).1 (λ d. d < m)
told_put_within (Some n) late_put token put m late first = tt
told_put_within None (Some d) token put m late first = late
told_put_within None None token put m late first = first

-- the first Got that names a put stands in the list
pub first_within : (events : List Event) (name : PutName) (r : Option ℕ) → MatchOption r (¬ IsGot events name) (IsFirstNamed events name)
    → IfSome r (λ d. d < length events)
first_within events name None none = tt
first_within events name (Some d) is = slice_get_within events d _ is.names.ends

-- nothing is got where nothing ends with Done
pub none_done : (events : List Event) (queue d : ℕ) (name : PutName) → NoDoneAt events queue d → EndsDone events queue d name → ¬ IsGot events name
none_done events queue d (Opening i) none ends = absurd ends
none_done events queue d (Of k n) none ends = absurd (none.none k n ends)

-- the first Got that names the one that is told: a token, a put that ends with Done, or none
pub told_token : (events : List Event) (queue : ℕ) (token put : Option ℕ) (number : ℕ) (name : PutName) (got : Option ℕ) → token ≡ Some number
    → MatchOption got (¬ IsGot events (Opening number)) (IsFirstNamed events (Opening number)) → IsToldPut events queue token put name
    → MatchOption got (¬ IsGot events name) (IsFirstNamed events name)
told_token events queue token put number name got is first told =
    let same : name ≡ Opening number = subst (λ t. IsToldPut events queue t put name) is told in
    subst (λ n. MatchOption got (¬ IsGot events n) (IsFirstNamed events n)) (sym same) first

told_done : (events : List Event) (queue : ℕ) (token put : Option ℕ) (d : ℕ) (name : PutName) → token ≡ None → put ≡ Some d
    → IsToldPut events queue token put name → EndsDone events queue d name
told_done events queue token put d name tokenless is told =
    subst (λ p. IsToldPut events queue None p name) is (subst (λ t. IsToldPut events queue t put name) tokenless told)

pub told_put : (events : List Event) (queue : ℕ) (token put : Option ℕ) (d : ℕ) (mine name : PutName) (got : Option ℕ) → token ≡ None → put ≡ Some d
    → EndsDone events queue d mine → MatchOption got (¬ IsGot events mine) (IsFirstNamed events mine) → IsToldPut events queue token put name
    → MatchOption got (¬ IsGot events name) (IsFirstNamed events name)
told_put events queue token put d mine name got tokenless is done first told =
    let same : mine ≡ name = one_done events queue d mine name done (told_done events queue token put d name tokenless is told) in
    subst (λ n. MatchOption got (¬ IsGot events n) (IsFirstNamed events n)) same first

pub told_undone : (events : List Event) (queue : ℕ) (token put : Option ℕ) (d : ℕ) (name : PutName) (got : Option ℕ) → token ≡ None → put ≡ Some d
    → NoDoneAt events queue d → got ≡ None → IsToldPut events queue token put name → MatchOption got (¬ IsGot events name) (IsFirstNamed events name)
told_undone events queue token put d name got tokenless is none got_is told =
    rw got_is (none_done events queue d name none (told_done events queue token put d name tokenless is told))

pub told_nothing : (events : List Event) (queue : ℕ) (token put : Option ℕ) (name : PutName) → token ≡ None → put ≡ None
    → IsToldPut events queue token put name → ⊥
told_nothing events queue token put name tokenless none told =
    subst (λ p. IsToldPut events queue None p name) none (subst (λ t. IsToldPut events queue t put name) tokenless told)
