-- One event more, and the first Got that names each put
use Rattle.std.proofs.Common.{◌≡◌, ℕ, ◌+◌, ◌⊎◌, inl, inr, true, false, List, Option, Some, None, is_some, slice_get, length, if◌then◌else◌, MatchOption}
use Rattle.std.proofs.Common.{sym, subst, ap, refl, arith}
use Rattle.std.proofs.lemmas.Bool.{cases_eq}
use Rattle.std.proofs.lemmas.Bool.Decides.{eqb_tells}
use Rattle.std.proofs.lemmas.Option.{slice_get_within}
use Rattle.scq_hist.specs.Exports.{Names, IsGot, got_name, IsFirstNamed}
use Rattle.scq_hist.specs.declared.events.Event.{Event}
use Rattle.scq_hist.specs.declared.events.Event.TheVariants.{End}
use Rattle.scq_hist.specs.declared.events.PutName.{PutName}
use Rattle.scq_hist.specs.declared.events.PutName.TheVariants.{Opening, Of}
use Rattle.scq_hist.specs.declared.events.Reply.TheVariants.{Got}
use Rattle.scq_hist.proofs.NamesLemmas.{names_there, named_there, same_name as one_name}
use Rattle.scq_check.specs.Exports.{found_in, is_same_put, NotNamed, IsGots}
use Rattle.scq_check.specs.declared.gots.Gots.{Gots}

-- the test of names tells
tells_put : (a b : PutName) → ((is_same_put a b ≡ true) × (a ≡ b)) ⊎ ((is_same_put a b ≡ false) × (a ≡ b → ⊥))
tells_put (Opening i) (Opening j) = elim (eqb_tells i j) [ inl e ↦ inl (e.0, ap Opening e.1) | inr e ↦ inr (e.0, λ same. e.1 cc) ]
tells_put (Opening i) (Of k n) = inr (refl, λ same. cc)
tells_put (Of k n) (Opening j) = inr (refl, λ same. cc)
tells_put (Of k n) (Of l m) = elim (eqb_tells k l) [
  | inl e ↦ elim (eqb_tells n m) [
    | inl f ↦ inl (rw (e.0, f.0) refl, (let x = e.1 in let y = f.1 in cc))
    | inr f ↦ inr (rw (e.0, f.0) refl, λ same. f.1 cc)
  ]
  | inr e ↦ inr (rw e.0 refl, λ same. e.1 cc)
]

-- where the put isn't named at position e
not_named_more : (events : List Event) (e : ℕ) (name : PutName) → NotNamed events e name → ¬ Names events e name → NotNamed events (e + 1) name
not_named_more events e name n here = record {
  none = λ d lt named. elim (cases_eq d e) [
    | inl is ↦ here (subst (λ k. Names events k name) is named)
    | inr ne ↦ n.none d (omega arith) named
  ];
}

kept : (events : List Event) (e : ℕ) (name : PutName) (before : Option ℕ) → ¬ Names events e name
    → MatchOption before (NotNamed events e name) (IsFirstNamed events name) → MatchOption before (NotNamed events (e + 1) name) (IsFirstNamed events name)
kept events e name None other old = not_named_more events e name old other
kept events e name (Some s) other old = old

-- no Got stands at position e
pub gots_more_none : (events : List Event) (e : ℕ) (gots : Gots) (event : Event) → slice_get events e ≡ Some event → got_name event ≡ None
    → IsGots events e gots → IsGots events (e + 1) gots
gots_more_none events e gots event at none is = record {
  first = λ name. kept events e name (found_in gots name) (λ named. let there = named_there events e event name at named in absurd cc) (is.first name);
}

-- a Got stands there that names a put which was named before
again : (events : List Event) (e s : ℕ) (gots : Gots) (event : Event) (mine : PutName) → slice_get events e ≡ Some event
    → got_name event ≡ Some mine → found_in gots mine ≡ Some s → IsGots events e gots → IsGots events (e + 1) gots
again events e s gots event mine at named was is = record {
  first = λ name. elim (tells_put mine name) [
    | inl t ↦ (let there : found_in gots name ≡ Some s = subst (λ z. found_in gots z ≡ Some s) t.1 was in
        let old = is.first name in
        subst (λ o. MatchOption o (NotNamed events (e + 1) name) (IsFirstNamed events name)) (sym there)
        (subst (λ o. MatchOption o (NotNamed events e name) (IsFirstNamed events name)) there old))
    | inr t ↦ kept events e name (found_in gots name) (λ n. t.1 (one_name events e mine name (names_there events e event mine at named) n)) (is.first name)
  ];
}

pub gots_more_again : (events : List Event) (e : ℕ) (gots : Gots) (event : Event) (mine : PutName) → slice_get events e ≡ Some event
    → got_name event ≡ Some mine → is_some (found_in gots mine) ≡ true → IsGots events e gots → IsGots events (e + 1) gots
gots_more_again events e gots event mine at named some is = by_place (found_in gots mine) refl some where
  by_place : (place : Option ℕ) → found_in gots mine ≡ place → is_some place ≡ true → IsGots events (e + 1) gots
  by_place None was some = absurd cc
  by_place (Some s) was some = again events e s gots event mine at named was is

-- a Got stands there that is the first to name its put
first : (events : List Event) (e : ℕ) (old new : Gots) (event : Event) (mine : PutName) → slice_get events e ≡ Some event
    → got_name event ≡ Some mine → found_in old mine ≡ None
    → ((other : PutName) → found_in new other ≡ (if is_same_put mine other then Some e else found_in old other))
    → IsGots events e old → IsGots events (e + 1) new
first events e old new event mine at named was now is = record {
  first = λ name. elim (tells_put mine name) [
    | inl t ↦ (let there : found_in new name ≡ Some e = rw t.0 at (now name) in
        let none : NotNamed events e mine = subst (λ o. MatchOption o (NotNamed events e mine) (IsFirstNamed events mine)) was (is.first mine) in
        let found : IsFirstNamed events mine e = record { names = names_there events e event mine at named; first = none.none } in
        subst (λ o. MatchOption o (NotNamed events (e + 1) name) (IsFirstNamed events name)) (sym there)
        (subst (λ z. IsFirstNamed events z e) t.1 found))
    | inr t ↦ (let there : found_in new name ≡ found_in old name = rw t.0 at (now name) in
        subst (λ o. MatchOption o (NotNamed events (e + 1) name) (IsFirstNamed events name)) (sym there)
        (kept events e name (found_in old name) (λ n. t.1 (one_name events e mine name (names_there events e event mine at named) n)) (is.first name)))
  ];
}

pub gots_more_first : (events : List Event) (e : ℕ) (old new : Gots) (event : Event) (mine : PutName) → slice_get events e ≡ Some event
    → got_name event ≡ Some mine → is_some (found_in old mine) ≡ false
    → ((other : PutName) → found_in new other ≡ (if is_same_put mine other then Some e else found_in old other))
    → IsGots events e old → IsGots events (e + 1) new
gots_more_first events e old new event mine at named none now is = by_place (found_in old mine) refl none where
  by_place : (place : Option ℕ) → found_in old mine ≡ place → is_some place ≡ false → IsGots events (e + 1) new
  by_place None was none = first events e old new event mine at named was now is
  by_place (Some s) was none = absurd cc

-- none of all events names the put
not_got : (events : List Event) (name : PutName) → NotNamed events (length events) name → ¬ IsGot events name
not_got events name n got =
    let named = got.1 in n.none got.0 (slice_get_within events got.0 (End named.seat (Got name named.content)) named.ends) named

pub first_or_none : (events : List Event) (name : PutName) (kept : Option ℕ) (found : Option ℕ) → kept ≡ found
    → MatchOption found (NotNamed events (length events) name) (IsFirstNamed events name) → MatchOption kept (¬ IsGot events name) (IsFirstNamed events name)
first_or_none events name None None same h = not_got events name h
first_or_none events name None (Some e) same h = absurd cc
first_or_none events name (Some s) None same h = absurd cc
first_or_none events name (Some s) (Some e) same h = (let is : e ≡ s = cc in subst (λ z. IsFirstNamed events name z) is h)
