use Rattle.std.proofs.Common.{◌≡◌, length, subst, arith}
use Rattle.scq_judge.specs.OwnCalls.{AreOwnCalls}
use Rattle.scq_judge.proofs.own_calls.OwnCalls.new.Goals as goal

pub loop-e-init : goal.loop-e-init
loop-e-init c = c.in_ok-calls.ensures

pub returns : goal.returns
returns c =
    let last : c.loop-e.e ≡ length c.args.events.now = omega arith in subst (λ m. AreOwnCalls c.args.events.now m c.loop-e.calls) last c.loop-e.invariant
