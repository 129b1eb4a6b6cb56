-- The verdict of an aspect, and how verdicts are printed
use Rattle.std.specs.Prelude.{◌≡◌, ◌↔◌, ℕ, ◌+◌, ◌<◌, List, ◌++◌, Option, Some, None, IfSome}
use Rattle.std.specs.Prelude.{codes, decimal}
use Rattle.std.specs.Option.{option_map}
use Rattle.scq_hist.specs.Exports.{IsFreshAt, IsFresh, IsOnceAt, IsOnce, IsInOrderAt, IsInOrder}
use Rattle.scq_hist.specs.Exports.{IsEmptyRightAt, IsEmptyRight, IsFirstFailing}
use Rattle.scq_hist.specs.declared.events.Event.{Event}
use Rattle.scq_check.specs.Counterparts.{AtFirst, IsOfOrigin, IsOriginWithin, IsRepeatOf}
use Rattle.scq_check.specs.Counterparts.{IsOvertaking, IsEmptyBeside, IsOfRefused}
use Rattle.scq_check.specs.Endings.{AreEndings}
use Rattle.scq_check.specs.Failures.{AreFailures}
use Rattle.scq_check.specs.Refused.{IsAcceptedAt}
use Rattle.scq_check.specs.Tokens.{IsTokenInOrderAt}
use Rattle.scq_check.specs.Waiting.{IsToldWithin}
use Rattle.scq_check.specs.declared.verdicts.Breaches.{Breaches}
use Rattle.scq_check.specs.declared.verdicts.Verdict.{Verdict}

-- of an aspect that is a fact of each event: none where it holds of each, else the number, from 1,
-- of the first event that breaks it
abbrev pub IsVerdict : (ℕ → Type 0) → Option ℕ → Type 0
IsVerdict Holds verdict =
    (first : Option ℕ) × (verdict ≡ option_map (λ e. e + 1) first) × IsFirstFailing Holds first

-- the verdict of a history: of each aspect the first event that breaks it
pub record IsVerdictOf (opening : List (List ℕ)) (events : List Event)
    (verdict : Verdict) : Type 0 where
  pub fresh : IsVerdict (IsFreshAt opening events) verdict.fresh
  pub once : IsVerdict (IsOnceAt events) verdict.once
  pub in_order : IsVerdict (IsInOrderAt opening events) verdict.in_order
  pub empty_right : IsVerdict (IsEmptyRightAt opening events) verdict.empty_right

-- the verdict has no event exactly where the aspect holds
pub record TellsWhatHolds (opening : List (List ℕ)) (events : List Event)
    (verdict : Verdict) : Type 0 where
  pub is_fresh : (verdict.fresh ≡ None) ↔ IsFresh opening events
  pub is_once : (verdict.once ≡ None) ↔ IsOnce events
  pub is_in_order : (verdict.in_order ≡ None) ↔ IsInOrder opening events
  pub is_empty_right : (verdict.empty_right ≡ None) ↔ IsEmptyRight opening events

-- what the first event that breaks each aspect stands against
pub record HaveCounterparts (opening : List (List ℕ)) (events : List Event)
    (breaches : Breaches) : Type 0 where
  pub fresh : AtFirst (IsOfOrigin opening events) breaches.fresh.first breaches.counterparts.fresh
  pub once : AtFirst (IsRepeatOf events) breaches.once.first breaches.counterparts.once
  pub in_order : AtFirst
      (IsOvertaking opening events) breaches.in_order.first breaches.counterparts.in_order
  pub overtaker : AtFirst
      (IsOfOrigin opening events) breaches.in_order.first breaches.counterparts.overtaker
  pub empty_right : AtFirst
      (IsEmptyBeside opening events) breaches.empty_right.first breaches.counterparts.empty_right
  pub accepted : AtFirst (IsOfRefused events) breaches.accepted.first breaches.counterparts.accepted

-- of a history: the events that break each aspect, what the first of them stands against, and how
-- many calls end in each way
pub record AreBreaches (opening : List (List ℕ)) (events : List Event)
    (breaches : Breaches) : Type 0 where
  pub accepted : AreFailures (IsAcceptedAt events) breaches.accepted
  pub fresh : AreFailures (IsFreshAt opening events) breaches.fresh
  pub once : AreFailures (IsOnceAt events) breaches.once
  pub in_order : AreFailures (IsInOrderAt opening events) breaches.in_order
  pub empty_right : AreFailures (IsEmptyRightAt opening events) breaches.empty_right
  pub tokens : AreFailures (IsTokenInOrderAt opening events) breaches.opening
  pub endings : AreEndings events breaches.endings
  pub against : HaveCounterparts opening events breaches

-- each first event that breaks an aspect stands below position m, and so does what is told beside
-- it
pub record AreWithin (m : ℕ) (breaches : Breaches) : Type 0 where
  pub fresh : IfSome breaches.fresh.first (λ e. e < m)
  pub once : IfSome breaches.once.first (λ e. e < m)
  pub in_order : IfSome breaches.in_order.first (λ e. e < m)
  pub empty_right : IfSome breaches.empty_right.first (λ e. e < m)
  pub accepted : IfSome breaches.accepted.first (λ e. e < m)
  pub opening : IfSome breaches.opening.first (λ e. e < m)
  pub origin : IfSome breaches.counterparts.fresh (IsOriginWithin m)
  pub named : IfSome breaches.counterparts.once (λ d. d < m)
  pub overtaken : IfSome breaches.counterparts.in_order (IsToldWithin m)
  pub overtaker : IfSome breaches.counterparts.overtaker (IsOriginWithin m)
  pub waiting : IfSome breaches.counterparts.empty_right (IsToldWithin m)
  pub refused : IfSome breaches.counterparts.accepted (λ d. d < m)

-- the line of an aspect: its name, and ` holds` or ` fails at` and the number
abbrev pub aspect_line : List ℕ → Option ℕ → List ℕ
aspect_line name None = name ++ codes " holds\n"
aspect_line name (Some number) = name ++ codes " fails at " ++ decimal number ++ codes "\n"

-- the four lines of a verdict
abbrev pub verdict_lines : Verdict → List ℕ
verdict_lines v =
    aspect_line (codes "fresh") v.fresh ++ aspect_line (codes "once") v.once
    ++ aspect_line (codes "in order") v.in_order
    ++ aspect_line (codes "empty") v.empty_right
