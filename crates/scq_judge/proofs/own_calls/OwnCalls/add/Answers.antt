use Rattle.std.proofs.Common.{◌≡◌, ap, ◌∙◌, refl, unwrap_or, arith}
use Rattle.scq_hist.proofs.NamesLemmas.{read}
use Rattle.scq_check.proofs.Orders.{by_number}
use Rattle.scq_judge.specs.OwnCalls.{last_of_seat, no_call}
use Rattle.scq_judge.specs.declared.own_calls.OwnCall.{OwnCall}
use Rattle.scq_judge.proofs.OwnCallLemmas.{few_calls, few_puts, own_more, kept_last}
use Rattle.scq_judge.proofs.own_calls.OwnCalls.add.Goals as goal

pub begun-requires-clause-number : goal.begun-requires-clause-number
begun-requires-clause-number c =
    let few = few_calls c.args.events.now c.in-Start.seat c.args.e in
    let is = (c.requires.before.last c.in-Start.seat).number in
    let same : c.last-before.result.number ≡ (last_of_seat c.args.self.now.last c.in-Start.seat).number = ap (λ (o : OwnCall). o.number) c.last-before.ensures in
    omega arith

pub begun-requires-clause-put : goal.begun-requires-clause-put
begun-requires-clause-put c =
    let few = few_puts c.args.events.now c.in-Start.seat c.args.e in
    let is = (c.requires.before.last c.in-Start.seat).put in
    let same : c.last-before.result.put ≡ (last_of_seat c.args.self.now.last c.in-Start.seat).put = ap (λ (o : OwnCall). o.put) c.last-before.ensures in
    omega arith

pub returns-in_ok-insert-in-Start : goal.returns-in_ok-insert-in-Start
returns-in_ok-insert-in-Start c =
    own_more _ _ _ _ _ _ (read _ _ _ _ c.requires.within c.index-events-e.is c.in-Start.is) c.requires.before c.in_ok-push-in-Start.ensures.items
    (λ seat reply is. absurd cc)
    (λ seat. ap (λ o. unwrap_or o no_call) (by_number c.in-Start.seat seat _ _ _ (c.in_ok-insert-in-Start.ensures.updates.0 seat))
    ∙ kept_last c.args.e c.in-Start.seat seat c.in-Start.call _ _ _ c.begun.ensures.start c.begun.ensures.number c.begun.ensures.put
    (λ q. c.last-before.ensures ∙ ap (last_of_seat c.args.self.now.last) q))

pub returns-in_ok-push-in-End : goal.returns-in_ok-push-in-End
returns-in_ok-push-in-End c =
    own_more _ _ _ _ _ _ (read _ _ _ _ c.requires.within c.index-events-e.is c.in-End.is) c.requires.before c.in_ok-push-in-End.ensures.items
    (λ seat reply is. c.last-before-in-End.ensures ∙ ap (last_of_seat c.args.self.now.last) cc)
    (λ seat. refl)
