use Rattle.std.proofs.Common.{arith, ◌≡◌, subst}
use Rattle.scq_hist.specs.Exports.{IsFinishedAt, IsTally}
use Rattle.scq_hist.proofs.tallies.finished_tally.Goals as goal

pub loop-e-init : goal.loop-e-init
loop-e-init c = record {
  few = (let few = c.tally_before_all-tally.ensures.few in omega arith);
  tally = λ opening t. c.tally_before_all-tally.ensures.tally opening c.args.events.now t;
}

pub loop-e-preserved : goal.loop-e-preserved
loop-e-preserved c = record {
  few = (let few = c.tally_after-tally.ensures.few in let old = c.loop-e.invariant.few in omega arith);
  tally = λ opening t. c.tally_after-tally.ensures.tally opening (c.loop-e.invariant.tally opening t);
}

pub returns-clause-tally : goal.returns-clause-tally
returns-clause-tally c =
    let past = c.loop-e-test.false in let end = c.loop-e.auto.e-end in
    let same : c.loop-e.e ≡ c.args.moment = omega arith in
    λ opening t. subst (λ m.
    IsTally c.args.events.now (IsFinishedAt opening c.args.events.now c.args.queue m) c.loop-e.tally.ungot c.loop-e.tally.claimed_from) same
    (c.loop-e.invariant.tally opening t)
