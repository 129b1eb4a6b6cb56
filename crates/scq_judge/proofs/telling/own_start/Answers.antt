use Rattle.std.proofs.Common.{◌≡◌, ◌<◌, ℕ, List, length, Option, Some, None, unwrap_or, subst, sym}
use Rattle.scq_hist.specs.Exports.{under_way}
use Rattle.scq_hist.specs.declared.events.Event.{Event}
use Rattle.scq_hist.proofs.UnderWay.{started_within}
use Rattle.scq_judge.proofs.telling.own_start.Goals as goal

-- a call under way started within the list
within : (events : List Event) (seat e : ℕ) (start : Option ℕ) → start ≡ under_way events seat e → e < length events → unwrap_or start e < length events
within events seat e None is lt = lt
within events seat e (Some s) is lt = started_within events seat e s (sym is)

pub returns-in-End-clause-within : goal.returns-in-End-clause-within
returns-in-End-clause-within c =
    subst (λ s. s < length c.args.events.now) (sym c.unwrap_or.ensures) (within c.args.events.now c.in-End.seat c.args.e _ c.under_way.ensures c.requires)
