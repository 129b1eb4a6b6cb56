-- The history of a run has each aspect, so no event is the first that breaks it.
use Rattle.std.proofs.Common.{◌≡◌, ◌∙◌, ℕ, List, Err, sym, ap, subst}
use Rattle.scq_hist.specs.declared.events.Event.{Event}
use Rattle.scq_hist.specs.Exports.{IsFresh, IsOnce, IsInOrder, IsEmptyRight}
use Rattle.scq_hist.proofs.HandedOn.{same_fault}
use Rattle.scq_replay.proofs.judging.judge_run.Goals as goal

-- a fact of a history is one of equal tokens and events
same_history : (P : List (List ℕ) → List Event → Type 0) (tokens opening : List (List ℕ)) (events recorded : List Event) → tokens ≡ opening → events ≡ recorded
    → P opening recorded → P tokens events
same_history P tokens opening events recorded t e p = subst (λ ts. P ts events) (sym t) (subst (P opening) (sym e) p)

pub returns-in_err-replayed-clause-not_enabled : goal.returns-in_err-replayed-clause-not_enabled
returns-in_err-replayed-clause-not_enabled c at e =
    c.in_err-replayed.ensures.not_enabled at
    (ap Err (same_fault c.from_residual-in_err-replayed.result c.in_err-replayed.field-0.0 _ c.from_residual-in_err-replayed.ensures.1 e))

pub returns-clause-fresh : goal.returns-clause-fresh
returns-clause-fresh c =
    c.in_ok-judge.ensures.holds.is_fresh.1
    (same_history IsFresh _ _ _ _ (c.deref.ensures.value ∙ c.in_ok-tokens.ensures) c.deref-2.ensures.value c.in_ok-replayed.ensures.laws.history.fresh)

pub returns-clause-once : goal.returns-clause-once
returns-clause-once c = c.in_ok-judge.ensures.holds.is_once.1 (subst IsOnce (sym c.deref-2.ensures.value) c.in_ok-replayed.ensures.laws.history.once)

pub returns-clause-in_order : goal.returns-clause-in_order
returns-clause-in_order c =
    c.in_ok-judge.ensures.holds.is_in_order.1
    (same_history IsInOrder _ _ _ _ (c.deref.ensures.value ∙ c.in_ok-tokens.ensures) c.deref-2.ensures.value c.in_ok-replayed.ensures.laws.history.in_order)

pub returns-clause-empty_right : goal.returns-clause-empty_right
returns-clause-empty_right c =
    c.in_ok-judge.ensures.holds.is_empty_right.1
    (same_history IsEmptyRight _ _ _ _ (c.deref.ensures.value ∙ c.in_ok-tokens.ensures) c.deref-2.ensures.value c.in_ok-replayed.ensures.laws.history.empty_right)
