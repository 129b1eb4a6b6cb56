-- Puts that ended with Spent, event by event
use Rattle.std.proofs.Common.{◌≡◌, ℕ, suc, ◌+◌, ◌↔◌, ◌⊎◌, inl, inr, true, false, not, IsTrue, List, Option, Some, None, is_some, slice_get, length, if◌then◌else◌, MatchOption}
use Rattle.std.proofs.Common.{◌≤◌, sym, subst, ap, refl, arith, ◌∙◌}
use Rattle.std.proofs.lemmas.Bool.{cases_eq}
use Rattle.std.proofs.lemmas.Bool.Decides.{eqb_tells}
use Rattle.std.proofs.lemmas.Option.{slice_get_within}
use Rattle.scq_hist.specs.Exports.{puts_before, got_name, NoneEnds}
use Rattle.scq_hist.specs.declared.events.Event.{Event}
use Rattle.scq_hist.specs.declared.events.Event.TheVariants.{End}
use Rattle.scq_hist.specs.declared.events.PutName.TheVariants.{Opening, Of}
use Rattle.scq_hist.specs.declared.events.Reply.TheVariants.{Spent}
use Rattle.scq_hist.proofs.NamesLemmas.{names_there, named_there, same_name as one_name}
use Rattle.scq_check.specs.Exports.{same_name, place_in, IsSpentAt, IsRefused, IsAcceptedAt, NotSpentBefore, NamesNoPut, IsRefusals}
use Rattle.scq_check.specs.declared.by_name.ByName.{ByName}

-- before any event
pub refusals_none : (events : List Event) (names : ByName) → ((seat number : ℕ) → place_in names seat number ≡ None) → IsRefusals events 0 names
refusals_none events names none = record {
  each = λ seat number. subst (λ o. MatchOption o (NotSpentBefore events 0 seat number) (IsSpentAt events seat number)) (sym (none seat number))
      (record { none = λ e lt. absurd (omega arith) });
}

kept : (events : List Event) (m seat number : ℕ) (place : Option ℕ) → ¬ IsSpentAt events seat number m
    → MatchOption place (NotSpentBefore events m seat number) (IsSpentAt events seat number)
    → MatchOption place (NotSpentBefore events (m + 1) seat number) (IsSpentAt events seat number)
kept events m seat number None here old = record {
  none = λ e lt spent. elim (cases_eq e m) [
    | inl is ↦ here (subst (λ z. IsSpentAt events seat number z) is spent)
    | inr ne ↦ old.none e (omega arith) spent
  ];
}
kept events m seat number (Some e) here old = old

pub refusals_same : (events : List Event) (m : ℕ) (names : ByName) → NoneEnds true events m → IsRefusals events m names → IsRefusals events (m + 1) names
refusals_same events m names none is = record {
  each = λ seat number. kept events m seat number (place_in names seat number) (λ spent. none.none spent.s seat spent.queue spent.content spent.call) (is.each seat number);
}

-- two seats' names are the same or aren't
tells : (seat number k n : ℕ)
    → ((same_name (seat, number) (k, n) ≡ true) × (seat ≡ k) × (number ≡ n)) ⊎ ((same_name (seat, number) (k, n) ≡ false) × ((seat ≡ k) → (number ≡ n) → ⊥))
tells seat number k n = elim (eqb_tells seat k) [
  | inl a ↦ elim (eqb_tells number n) [
    | inl b ↦ inl (rw (a.0, b.0) refl, a.1, b.1)
    | inr b ↦ inr (rw (a.0, b.0) refl, λ _ same. b.1 same)
  ]
  | inr a ↦ inr (rw a.0 refl, λ same _. a.1 same)
]

-- an End with Spent stands at one position of one seat and number
one_spent : (events : List Event) (e seat number k n : ℕ) → IsSpentAt events seat number e → IsSpentAt events k n e → (seat ≡ k) × (number ≡ n)
one_spent events e seat number k n a b =
    let x = a.call.ends in let y = b.call.ends in
    let seats : seat ≡ k = cc in
    let u = a.call.under_way_till in let v = b.call.under_way_till in
    let starts : a.s ≡ b.s = cc in
    (seats, a.put.counted ∙ ap (λ z. suc (puts_before events seat z)) starts ∙ ap (λ z. suc (puts_before events z b.s)) seats ∙ sym b.put.counted)

pub refusals_more : (events : List Event) (m seat number : ℕ) (old new : ByName) → IsSpentAt events seat number m
    → ((k n : ℕ) → place_in new k n ≡ (if same_name (seat, number) (k, n) then Some m else place_in old k n))
    → IsRefusals events m old → IsRefusals events (m + 1) new
refusals_more events m seat number old new here now is = record {
  each = λ k n. elim (tells seat number k n) [
    | inl t ↦ (let there : place_in new k n ≡ Some m = rw t.0 at (now k n) in
        subst (λ o. MatchOption o (NotSpentBefore events (m + 1) k n) (IsSpentAt events k n)) (sym there)
        (subst (λ z. IsSpentAt events z n m) t.1 (subst (λ z. IsSpentAt events seat z m) t.2 here)))
    | inr t ↦ (let there : place_in new k n ≡ place_in old k n = rw t.0 at (now k n) in
        subst (λ o. MatchOption o (NotSpentBefore events (m + 1) k n) (IsSpentAt events k n)) (sym there)
        (kept events m k n (place_in old k n) (λ spent. let same = one_spent events m seat number k n here spent in t.1 same.0 same.1) (is.each k n)))
  ];
}

-- the one put that is named decides
decided : (events : List Event) (seat number : ℕ) (place : Option ℕ)
    → MatchOption place (NotSpentBefore events (length events) seat number) (IsSpentAt events seat number)
    → IsTrue (not (is_some place)) ↔ (¬ IsRefused events (Of seat number))
decided events seat number None none = (
  λ _ refused. let spent = refused.1 in
      none.none refused.0 (slice_get_within events refused.0 (End seat Spent) spent.call.ends) spent,
  λ _. refl,
)
decided events seat number (Some e) spent = (λ t. absurd cc, λ accepted. absurd (accepted (e, spent)))

pub refused_by_names : (events : List Event) (seat number : ℕ) (names : ByName) → IsRefusals events (length events) names
    → IsTrue (not (is_some (place_in names seat number))) ↔ (¬ IsRefused events (Of seat number))
refused_by_names events seat number names is = decided events seat number (place_in names seat number) (is.each seat number)

pub accepted_there : (events : List Event) (e seat number : ℕ) (event : Event) (names : ByName) → slice_get events e ≡ Some event
    → got_name event ≡ Some (Of seat number) → IsRefusals events (length events) names
    → IsTrue (not (is_some (place_in names seat number))) ↔ IsAcceptedAt events e
accepted_there events e seat number event names at named is =
    let here = names_there events e event (Of seat number) at named in
    let test = decided events seat number (place_in names seat number) (is.each seat number) in (
      λ t name names_it. subst (λ z. ¬ IsRefused events z) (one_name events e (Of seat number) name here names_it) (test.0 t),
      λ accepted. test.1 (accepted (Of seat number) here),
    )

-- no Got stands there that names a seat's put
pub accepted_other : (events : List Event) (e : ℕ) (event : Event) → slice_get events e ≡ Some event → NamesNoPut event → IsAcceptedAt events e
accepted_other events e event at other (Opening number) named refused = absurd refused
accepted_other events e event at other (Of seat number) named refused = absurd (other.none seat number (named_there events e event (Of seat number) at named))

pub accepted_past : (events : List Event) (e : ℕ) → length events ≤ e → IsAcceptedAt events e
accepted_past events e past name named = let lt = slice_get_within events e _ named.ends in absurd (omega arith)
