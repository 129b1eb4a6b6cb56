use Rattle.std.proofs.Common.{rules, arith, refl}
use Rattle.std.specs.Prelude.{count_by}
use Rattle.scq_passes.specs.Exports.{is_take}
use Rattle.scq_worker.specs.Exports.{HasTakenAll, KeepsItsOwn}
use Rattle.scq_passes.proofs.PassLemmas.{counted-below, counted-above}
use Rattle.scq_passes.proofs.LeftLemmas.{left-taken}
use Rattle.scq_files.proofs.Results.{err-of}
use Rattle.scq_worker.proofs.Going.{own-along, own-same, took-along, took-nothing}
use Rattle.scq_worker.proofs.worker.Worker.help.Goals as goal

pub topics-init : goal.topics-init
topics-init g c = record {
  took = took-nothing c.args.job.now.topics c.args.self.now;
  kept = own-same c.args.self.now;
  below = λ t low. absurd (omega arith);
  above = λ t low. refl;
}

pub topics-preserved : goal.topics-preserved
topics-preserved g c =
    let inv = c.topics.invariant in
    let topics = c.args.job.now.topics in
    let start = c.args.self.now in
    let old = c.topics.self in
    let now = c.take_one.new.self in
    let its = c.in_ok-take_one.ensures in
    let all = c.take_one.ensures in
    let one : HasTakenAll topics 1 old now = record { taken = its.taken; gates = its.only.gates; vain = its.vain; answered = its.answered } in
    let own : KeepsItsOwn old now = record { starved = all.starved; number = all.number; opens = all.opens } in
    record {
      took = took-along topics c.topics.topic 1 start old now all.starved inv.took one;
      kept = own-along start old now inv.kept own;
      below = counted-below c.topics.topic (λ t. count_by (is_take t) start.pass.calls) (λ t. count_by (is_take t) old.pass.calls)
          (λ t. count_by (is_take t) now.pass.calls) inv.below inv.above its.one;
      above = counted-above c.topics.topic (λ t. count_by (is_take t) start.pass.calls) (λ t. count_by (is_take t) old.pass.calls)
          (λ t. count_by (is_take t) now.pass.calls) inv.above its.one;
    }

pub returns-in_err-take_one-clause-left : goal.returns-in_err-take_one-clause-left
returns-in_err-take_one-clause-left g c =
    err-of _ c.from_residual.result c.in_err-take_one.field-0.0 (search rules)
    (λ n. left-taken n n c.args.self.now.pass c.topics.self.pass c.take_one.new.self.pass _ c.topics.invariant.took.taken
    (c.in_err-take_one.ensures.left n))

pub returns-in_err-take_one-clause-kept : goal.returns-in_err-take_one-clause-kept
returns-in_err-take_one-clause-kept g c =
    let all = c.take_one.ensures in
    own-along c.args.self.now c.topics.self c.take_one.new.self c.topics.invariant.kept
    (record { starved = all.starved; number = all.number; opens = all.opens })
