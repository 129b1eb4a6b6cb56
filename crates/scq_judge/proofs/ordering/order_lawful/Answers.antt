use Rattle.std.proofs.Common.{◌≡◌, Some, false, subst, rules}
use Rattle.scq_judge.specs.Exports.{IsOrderTold}
use Rattle.scq_judge.proofs.ordering.order_lawful.Goals as goal

pub returns-in-Some-false : goal.returns-in-Some-false
returns-in-Some-false c =
    let is : c.in-Some-false.field-0 ≡ false = search rules in
    subst (λ b. IsOrderTold c.args.opening.now c.args.events.now (Some b)) is
    (c.in-Some-false.ensures c.args.opening.now c.args.events.now c.requires c.in_ok-breaches.ensures.breaches c.in_ok-counts.ensures.never_ended)
