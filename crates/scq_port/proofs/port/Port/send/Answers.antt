use Rattle.std.proofs.Common.{rules, ◌≡◌, ◌+◌, ◌<◌, ◌≤◌, subst, arith}
use Rattle.std.specs.Prelude.{false}
use Rattle.scq_port.specs.Exports.{PortStanding, PortHasRetired, seen_as}
use Rattle.scq_port.proofs.Records.{retired_of, asleep_of}
use Rattle.scq_port.proofs.port.Port.send.Goals as goal

pub returns-then-topic-self-clause-retired : goal.returns-then-topic-self-clause-retired
returns-then-topic-self-clause-retired c is =
    let past : c.self.inside.sends ≤ c.args.topic = omega (arith, c.if-topic-self.true) in
    let low : c.args.topic < c.self.inside.topics = omega (arith, c.if-topic-self-2.false) in
    let asleep : c.self.inside.awake ≡ false = asleep_of c.self.inside.awake c.self.invariant.sends_is past low in
    let there : c.args.topic + 1 < c.args.self.now.pass.queue.setup.rings = search rules in (
      subst (λ (p : PortStanding). PortHasRetired p p) c.self.view_is
          (retired_of (seen_as c.self.inside.pass c.self.inside.hand) c.self.inside.awake c.self.invariant.awake_is asleep),
      there,
    )
