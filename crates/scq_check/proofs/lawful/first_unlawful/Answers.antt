use Rattle.std.proofs.Common.{ℕ, ◌≤◌, List, length, slice_get, sym, subst, arith}
use Rattle.std.proofs.lemmas.Option.{slice_get_past}
use Rattle.scq_hist.specs.Exports.{IsLawfulAt}
use Rattle.scq_hist.specs.declared.events.Event.{Event}
use Rattle.scq_hist.proofs.Firsts.{everywhere}
use Rattle.scq_check.proofs.lawful.first_unlawful.Goals as goal

lawful_past : (events : List Event) (e : ℕ) → length events ≤ e → IsLawfulAt events e (slice_get events e)
lawful_past events e past = subst (λ event. IsLawfulAt events e event) (sym (slice_get_past events e past)) tt

pub returns-clause-first : goal.returns-clause-first
returns-clause-first c = everywhere _ _ _ c.loop-e-test.false c.loop-e.invariant.before (lawful_past c.args.events.now)

pub loop-e-init : goal.loop-e-init
loop-e-init c = record { calls = c.in_ok-calls.ensures; before = λ e lt. absurd (omega arith) }
