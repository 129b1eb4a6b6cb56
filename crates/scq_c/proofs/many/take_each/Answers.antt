use Rattle.std.proofs.Common.{arith}
use Rattle.scq_c.specs.Exports.{OfTake}
use Rattle.scq_c.proofs.Rows.{none_went, set_next, all_done, stopped_at}
use Rattle.scq_c.proofs.many.take_each.Goals as goal

pub loop-k-init : goal.loop-k-init
loop-k-init c = none_went (OfTake c.args.topic) c.args.out.now c.args.port.now

pub loop-k-preserved : goal.loop-k-preserved
loop-k-preserved c =
    set_next (OfTake c.args.topic) c.loop-k.k c.take_into-answer.result c.args.out.now c.loop-k.out c.args.port.now c.loop-k.port c.take_into-answer.new.port _ c.take_into-answer.new.out c.loop-k.invariant c.loop-k-test.true
    (let ok = c.if-answer-ne-OK.false in omega (arith, ok)) c.take_into-answer.ensures

pub returns-then-answer-ne-OK : goal.returns-then-answer-ne-OK
returns-then-answer-ne-OK c =
    stopped_at (OfTake c.args.topic) c.loop-k.k c.take_into-answer.result c.args.out.now c.loop-k.out c.args.port.now c.loop-k.port c.take_into-answer.new.port _ c.take_into-answer.new.out c.loop-k.invariant c.loop-k-test.true
    (let no = c.if-answer-ne-OK.true in omega (arith, no)) c.take_into-answer.ensures

pub returns : goal.returns
returns c =
    all_done (OfTake c.args.topic) c.loop-k.k c.args.out.now c.loop-k.out c.args.port.now c.loop-k.port c.loop-k.invariant (let past = c.loop-k-test.false in omega (arith, past))
