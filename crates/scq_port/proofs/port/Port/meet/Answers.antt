use Rattle.std.proofs.Common.{subst}
use Rattle.scq_band.specs.Exports.{HaveSeenOneRun}
use Rattle.scq_port.specs.Exports.{PortStanding}
use Rattle.scq_port.proofs.Marking.{has_seen}
use Rattle.scq_port.proofs.port.Port.meet.Goals as goal

pub invariant_of-self : goal.invariant_of-self
invariant_of-self c = has_seen c.self.invariant c.meet.ensures.one

pub invariant_of-other : goal.invariant_of-other
invariant_of-other c = has_seen c.other.invariant c.meet.ensures.other

pub returns-clause-comparable : goal.returns-clause-comparable
returns-clause-comparable c =
    subst (λ (p : PortStanding). HaveSeenOneRun p.pass.seen c.args.other.now.pass.seen) c.self.view_is
    (subst (λ (p : PortStanding). HaveSeenOneRun c.self.inside.pass.seen p.pass.seen) c.other.view_is c.meet.ensures.comparable)
