use Rattle.std.proofs.Common.{subst}
use Rattle.scq_port.specs.Exports.{PortStanding, WasFull, seen_as}
use Rattle.scq_port.proofs.port.Port.lend.Goals as goal

pub returns-clause-full : goal.returns-clause-full
returns-clause-full c head is =
    subst (λ (p : PortStanding). WasFull head p (seen_as c.lend.new.pass c.lend.new.hand)) c.self.view_is (c.lend.ensures.full head is)
