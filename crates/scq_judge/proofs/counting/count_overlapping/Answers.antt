use Rattle.std.proofs.Common.{◌≡◌, length, refl, subst, arith}
use Rattle.scq_hist.specs.Exports.{IsCount}
use Rattle.scq_judge.specs.Exports.{IsBusy}
use Rattle.scq_judge.proofs.CountLemmas.{before_none, before_all, busy_none, overlap_within}
use Rattle.scq_judge.proofs.counting.count_overlapping.Goals as goal

pub loop-e-init : goal.loop-e-init
loop-e-init c = record { few = omega arith; busy = busy_none _ _ refl; count = before_none _ _ refl }

pub returns-clause-overlapping : goal.returns-clause-overlapping
returns-clause-overlapping c = before_all _ _ _ _ c.loop-e-test.false (overlap_within c.args.events.now) c.loop-e.invariant.count

pub returns-clause-never_ended : goal.returns-clause-never_ended
returns-clause-never_ended c =
    let here : c.loop-e.e ≡ length c.args.events.now = (let past = c.loop-e-test.false in let end = c.loop-e.auto.e-end in omega arith) in
    subst (λ m. IsCount (IsBusy c.args.events.now m) c.loop-e.busy) here c.loop-e.invariant.busy.count
