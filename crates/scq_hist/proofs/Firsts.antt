-- The first event that breaks an aspect, which past the end of a list no event does
use Rattle.std.proofs.Common.{◌≡◌, ℕ, ◌<◌, ◌≤◌, ◌↔◌, Bool, true, false, not, IsTrue, is_some, Option, Some, None, List, length, inl, inr, refl, arith}
use Rattle.std.proofs.lemmas.Bool.{cases_lt}
use Rattle.std.proofs.lemmas.Option.{slice_get_within}
use Rattle.scq_hist.specs.Exports.{IsFreshAt, IsOnceAt, IsInOrderAt, IsEmptyRightAt, IsFirstFailing}
use Rattle.scq_hist.specs.declared.events.Event.{Event}
use Rattle.scq_hist.specs.declared.events.Event.TheVariants.{End}
use Rattle.scq_hist.specs.declared.events.PutName.TheVariants.{Of}
use Rattle.scq_hist.specs.declared.events.Reply.TheVariants.{Got, Nothing}

-- there is none exactly where the fact holds of each
pub none_iff : (Holds : ℕ → Type 0) (first : Option ℕ) (b : Bool) → is_some first ≡ not b → IsFirstFailing Holds first → IsTrue b ↔ ((e : ℕ) → Holds e)
none_iff Holds None true is each = (λ _. each, λ _. refl)
none_iff Holds None false is each = absurd cc
none_iff Holds (Some e) true is fails = absurd cc
none_iff Holds (Some e) false is fails = (λ t. absurd cc, λ each. absurd (fails.0 (each e)))

-- a fact that holds below the end and past it holds everywhere
pub everywhere : (Holds : ℕ → Type 0) (n i : ℕ) → n ≤ i → ((e : ℕ) → e < i → Holds e) → ((e : ℕ) → n ≤ e → Holds e) → (e : ℕ) → Holds e
everywhere Holds n i past below above e = elim (cases_lt e i) [ inl lt ↦ below e lt | inr ge ↦ above e (omega arith) ]

pub fresh_past : (opening : List (List ℕ)) (events : List Event) (e : ℕ) → length events ≤ e → IsFreshAt opening events e
fresh_past opening events e past s seat queue name content call =
    let lt = slice_get_within events e (End seat (Got name content)) call.ends in absurd (omega arith)

pub once_past : (events : List Event) (e : ℕ) → length events ≤ e → IsOnceAt events e
once_past events e past name d names lt =
    let within = slice_get_within events e (End names.seat (Got name names.content)) names.ends in absurd (omega arith)

pub in_order_past : (opening : List (List ℕ)) (events : List Event) (e : ℕ) → length events ≤ e → IsInOrderAt opening events e
in_order_past opening events e past s seat number queue start content get put =
    let lt = slice_get_within events e (End get.seat (Got (Of seat number) get.content)) get.call.ends in absurd (omega arith)

pub empty_right_past : (opening : List (List ℕ)) (events : List Event) (e : ℕ) → length events ≤ e → IsEmptyRightAt opening events e
empty_right_past opening events e past s seat queue call =
    let lt = slice_get_within events e (End seat Nothing) call.ends in absurd (omega arith)
