use Rattle.std.proofs.Common.{sym, ◌∙◌}
use Rattle.scq_core.proofs.Filling.{started_machine, started_sound}
use Rattle.scq_core.proofs.state.State.start.Goals as goal

pub invariant_of-result : goal.invariant_of-result
invariant_of-result c =
    started_sound c.args.setup c.args.opening.items c.in_ok-rings.rings.items c.in_ok-seats.seats.items c.in_ok-rings.ensures c.in_ok-seats.ensures
    (sym c.args.opening.ok.0 ∙ c.requires)

pub returns-clause-machine : goal.returns-clause-machine
returns-clause-machine c =
    started_machine c.args.setup c.args.opening.items c.in_ok-rings.rings.items c.in_ok-seats.seats.items c.in_ok-rings.ensures c.in_ok-seats.ensures

pub returns-clause-reachable : goal.returns-clause-reachable
returns-clause-reachable c = (invariant_of-result c).reachable
