use Rattle.std.proofs.Common.{rules, arith, refl, ap, ◌∙◌, ◌≡◌, ◌≤◌, ◌+◌, unwrap_or}
use Rattle.std.specs.Ordering.{nat_cmp}
use Rattle.std.specs.BTreeMap.{get}
use Rattle.scq_hist.proofs.NamesLemmas.{read}
use Rattle.scq_check.proofs.PutLemmas.{puts_few, puts_more_put, puts_more_other}
use Rattle.scq_check.proofs.Orders.{by_number}
use Rattle.scq_check.proofs.puts.Puts.add.Goals as goal

pub overflow_add-number : goal.overflow_add-number
overflow_add-number c =
    let count : c.unwrap_or-number.result ≡ unwrap_or (get nat_cmp c.args.self.now.counts c.in-Some.seat) 0 =
    c.unwrap_or-number.ensures ∙ ap (λ o. unwrap_or o 0) (c.copied.ensures ∙ c.get.ensures.value) in
    let before = c.requires.before.counts c.in-Some.seat in
    let few = puts_few c.args.events.now c.in-Some.seat c.args.e in
    let within = c.requires.within in
    let small : c.unwrap_or-number.result ≤ c.args.e = omega arith in
    search rules

pub returns-in_ok-push-in-Some : goal.returns-in_ok-push-in-Some
returns-in_ok-push-in-Some c =
    puts_more_put _ _ _ _ _ _ _ (read _ _ _ _ c.requires.within c.index-events-e.is refl) c.in-Some.ensures c.requires.before
    (ap (λ n. n + 1) (c.unwrap_or-number.ensures ∙ ap (λ o. unwrap_or o 0) (c.copied.ensures ∙ c.get.ensures.value)))
    c.in_ok-push-in-Some.ensures.items
    (λ q. by_number _ q _ _ _ (c.in_ok-insert-in-Some.ensures.updates.0 q))
    c.in_ok-set-in-Some.ensures

pub returns-in_ok-push-in-None : goal.returns-in_ok-push-in-None
returns-in_ok-push-in-None c =
    puts_more_other _ _ _ _ _ (read _ _ _ _ c.requires.within c.index-events-e.is refl) c.in-None.ensures c.requires.before
    c.in_ok-push-in-None.ensures.items refl refl
