use Rattle.std.proofs.Common.{rules, ◌≡◌, ◌+◌, ◌<◌, subst, refl}
use Rattle.scq_port.specs.Exports.{PortStanding, HasCounted, seen_as}
use Rattle.scq_port.proofs.Records.{counted_of}
use Rattle.scq_port.proofs.port.Port.count.Goals as goal

pub returns-clause-counted : goal.returns-clause-counted
returns-clause-counted c =
    let hand = c.self.inside.hand in
    let queue = c.deref.result.now.queue in
    let own : c.self.inside.pass.queue ≡ queue = search (rules, c.deref.ensures, c.self.invariant.keeps.own) in
    let there : c.args.topic + 1 < queue.setup.rings = search (rules, c.deref.ensures, c.self.invariant.topics) in
    subst (λ (p : PortStanding). HasCounted c.args.topic c.count.result p (seen_as c.count.new.pass hand)) c.self.view_is
    (counted_of queue (seen_as c.self.inside.pass hand) (seen_as c.count.new.pass hand) c.args.topic c.count.result own there
    c.count.ensures.same refl refl c.count.ensures.at_most c.count.ensures.counted)
