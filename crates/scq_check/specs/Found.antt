-- For private calls: what is found of the four aspects, and of the order of the opening tokens
use Rattle.std.specs.Prelude.{ℕ, ◌<◌, List, IfSome, length}
use Rattle.scq_hist.specs.Exports.{IsFreshAt, IsOnceAt, IsInOrderAt, IsEmptyRightAt}
use Rattle.scq_hist.specs.declared.events.Event.{Event}
use Rattle.scq_check.specs.Failures.{AreFailures}
use Rattle.scq_check.specs.Tokens.{IsTokenInOrderAt}
use Rattle.scq_check.specs.declared.failures.Failures.{Failures}
use Rattle.scq_check.specs.declared.verdicts.Found.{Found}

-- these events break the aspect, and the first of them is one of the list
pub record AreFoundOf (Holds : ℕ → Type 0) (events : List Event) (found : Failures) : Type 0 where
  pub failures : AreFailures Holds found
  pub within : IfSome found.first (λ e. e < length events)

-- so of each aspect
pub record AreFound (opening : List (List ℕ)) (events : List Event) (found : Found) : Type 0 where
  pub fresh : AreFoundOf (IsFreshAt opening events) events found.fresh
  pub once : AreFoundOf (IsOnceAt events) events found.once
  pub in_order : AreFoundOf (IsInOrderAt opening events) events found.in_order
  pub empty_right : AreFoundOf (IsEmptyRightAt opening events) events found.empty_right
  pub tokens : AreFoundOf (IsTokenInOrderAt opening events) events found.opening
