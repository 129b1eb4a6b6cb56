use Rattle.std.proofs.Common.{subst}
use Rattle.scq_port.specs.Exports.{PortStanding, WasEmpty, seen_as}
use Rattle.scq_port.proofs.port.Port.take.Goals as goal

pub returns-clause-empty : goal.returns-clause-empty
returns-clause-empty c head is =
    subst (λ (p : PortStanding). WasEmpty c.args.topic head p (seen_as c.take.new.pass c.take.new.hand)) c.self.view_is (c.take.ensures.empty head is)
