-- What is told beside the first event that breaks an aspect
use Rattle.std.proofs.Common.{◌≡◌, ℕ, ◌<◌, List, Option, Some, None, length, slice_get, get_or, sym, subst, refl}
use Rattle.std.specs.Prelude.{IfSome, MatchOption}
use Rattle.std.proofs.lemmas.Option.{slice_get_within}
use Rattle.scq_hist.specs.Exports.{IsFreshAt, IsOnceAt, IsInOrderAt, IsGot, IsFirstFailing, got_name, IsFirstNamed}
use Rattle.scq_hist.specs.declared.events.Event.{Event}
use Rattle.scq_hist.specs.declared.events.PutName.{PutName}
use Rattle.scq_hist.specs.declared.events.PutName.TheVariants.{Of}
use Rattle.scq_hist.proofs.NamesLemmas.{names_there, named_there, read}
use Rattle.scq_check.specs.Exports.{place_in, AtFirst, IsOrigin, IsOfOrigin, IsRepeatOf, IsOfRefused, NamesNone, IsAcceptedAt, IsRefusals}
use Rattle.scq_check.specs.Exports.{NotSpentBefore, IsSpentAt}
use Rattle.scq_check.specs.declared.by_name.ByName.{ByName}
use Rattle.scq_check.specs.declared.counterparts.Origin.{Origin}
use Rattle.scq_check.proofs.RefusedLemmas.{accepted_there}

-- the first event breaks the aspect
pub fails_there : (Holds : ℕ → Type 0) (first : Option ℕ) (e : ℕ) → first ≡ Some e → IsFirstFailing Holds first → ¬ Holds e
fails_there Holds first e is failing = let there = subst (IsFirstFailing Holds) is failing in there.0

pub read_first : (events : List Event) (event : Event) (first : Option ℕ) (e : ℕ) → first ≡ Some e → IfSome first (λ e. e < length events)
    → event ≡ get_or events e event → slice_get events e ≡ Some event
read_first events event first e is within seen = read events e event event (subst (λ o. IfSome o (λ e. e < length events)) is within) seen refl

pub told_there : {X : Type 0} (P : ℕ → X → Type 0) (first : Option ℕ) (e : ℕ) (told : Option X) → first ≡ Some e → AtFirst P (Some e) told → AtFirst P first told
told_there P first e told is at = subst (λ o. AtFirst P o told) (sym is) at

-- a Got that names a put, and the first that does
pub repeat_there : (events : List Event) (e : ℕ) (event : Event) (name : PutName) (told : Option ℕ) → slice_get events e ≡ Some event → got_name event ≡ Some name
    → MatchOption told (¬ IsGot events name) (IsFirstNamed events name) → AtFirst (IsRepeatOf events) (Some e) told
repeat_there events e event name None at named none = absurd (none (e, names_there events e event name at named))
repeat_there events e event name (Some d) at named first = record { name = name; again = names_there events e event name at named; first = first }

pub no_repeat : (events : List Event) (e : ℕ) (event : Event) → slice_get events e ≡ Some event → got_name event ≡ None → IsOnceAt events e
no_repeat events e event at none name d names lt before = let n = named_there events e event name at names in absurd cc

-- a Got that isn't fresh names a put, and so does one that overtakes
pub none_named : (events : List Event) (e : ℕ) (event : Event) → slice_get events e ≡ Some event → got_name event ≡ None → NamesNone events e
none_named events e event at none name names = let n = named_there events e event name at names in absurd cc

pub fresh_without : (opening : List (List ℕ)) (events : List Event) (e : ℕ) → NamesNone events e → IsFreshAt opening events e
fresh_without opening events e none s seat queue name content call =
    absurd (none name (record { seat = seat; content = content; ends = call.ends }))

pub in_order_without : (opening : List (List ℕ)) (events : List Event) (e : ℕ) → NamesNone events e → IsInOrderAt opening events e
in_order_without opening events e none s seat number queue start content get put =
    absurd (none (Of seat number) (record { seat = get.seat; content = get.content; ends = get.call.ends }))

pub names_some : (events : List Event) (Holds : ℕ → Type 0) (first : Option ℕ) → ((e : ℕ) → NamesNone events e → Holds e) → IsFirstFailing Holds first
    → IfSome first (λ e. ¬ NamesNone events e)
names_some events Holds None holds failing = tt
names_some events Holds (Some e) holds failing = λ none. failing.0 (holds e none)

pub origin_there : (opening : List (List ℕ)) (events : List Event) (e : ℕ) (event : Event) (name : PutName) (origin : Origin) → slice_get events e ≡ Some event
    → got_name event ≡ Some name → IsOrigin opening events name origin → IsOfOrigin opening events e origin
origin_there opening events e event name origin at named is = record { name = name; named = names_there events e event name at named; is = is }

-- a Got that names a put, and where that was refused
pub refused_there : (events : List Event) (e seat number : ℕ) (event : Event) (names : ByName) (told : Option ℕ) → told ≡ place_in names seat number
    → slice_get events e ≡ Some event → got_name event ≡ Some (Of seat number) → IsRefusals events (length events) names → (¬ IsAcceptedAt events e)
    → AtFirst (IsOfRefused events) (Some e) told
refused_there events e seat number event names None is at named refusals fails =
    let accepted = accepted_there events e seat number event names at named refusals in
    absurd (fails ((rw (sym is) at accepted).0 refl))
refused_there events e seat number event names (Some d) is at named refusals fails = record {
  seat = seat;
  number = number;
  named = names_there events e event (Of seat number) at named;
  spent = subst (λ o. MatchOption o (NotSpentBefore events (length events) seat number) (IsSpentAt events seat number)) (sym is) (refusals.each seat number);
}

pub refused_within : (events : List Event) (seat number : ℕ) (names : ByName) (told : Option ℕ) → told ≡ place_in names seat number
    → IsRefusals events (length events) names → IfSome told (λ d. d < length events)
refused_within events seat number names None is refusals = tt
refused_within events seat number names (Some d) is refusals =
    let spent : IsSpentAt events seat number d =
    subst (λ o. MatchOption o (NotSpentBefore events (length events) seat number) (IsSpentAt events seat number)) (sym is) (refusals.each seat number) in
    slice_get_within events d _ spent.call.ends
