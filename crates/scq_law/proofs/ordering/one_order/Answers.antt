-- The marks of the run are sorted, and so are its order.
use Rattle.std.proofs.Common.{Err, ap}
use Rattle.scq_hist.proofs.HandedOn.{same_fault}
use Rattle.scq_law.specs.Exports.{run_of}
use Rattle.scq_law.proofs.Order.OrderLaw as law
use Rattle.scq_law.proofs.Order.WholeRuns.{finished, whole}
use Rattle.scq_law.proofs.ordering.one_order.Goals as goal

pub returns-in_err-marking-clause-not_enabled : goal.returns-in_err-marking-clause-not_enabled
returns-in_err-marking-clause-not_enabled c at e =
    c.in_err-marking.ensures.not_enabled at
    (ap Err (same_fault c.from_residual.result c.in_err-marking.field-0.0 _ c.from_residual.ensures.1 e))

pub returns-clause-order : goal.returns-clause-order
returns-clause-order c =
    whole c.args.setup c.args.opening.items c.args.steps.now c.args.queue c.in_ok-marking.marking c.in_ok-marking.ensures.run c.in_default.ensures
    c.members_of-members.result.items c.sort_members.new.members.items c.in_ok-ordered.field-0.items c.members_of-members.ensures
    c.in_ok-sort_members.ensures.same c.in_ok-sort_members.ensures.sorted c.in_ok-ordered.ensures

pub returns-clause-plain : goal.returns-clause-plain
returns-clause-plain c =
    law.one_order (run_of c.args.setup c.args.opening.items c.args.steps.now)
    (finished c.args.setup c.args.opening.items c.args.steps.now c.args.queue c.in_ok-marking.marking c.in_ok-marking.ensures.run c.in_default.ensures)
    c.args.queue c.in_ok-ordered.field-0.items (returns-clause-order c)
