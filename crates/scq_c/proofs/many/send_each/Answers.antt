use Rattle.std.proofs.Common.{refl, arith}
use Rattle.scq_c.specs.Exports.{OfSlotSend}
use Rattle.scq_c.proofs.Rows.{none_went, set_next, all_done, stopped_at}
use Rattle.scq_c.proofs.many.send_each.Goals as goal

pub loop-k-init : goal.loop-k-init
loop-k-init c = none_went (OfSlotSend c.args.topic) c.args.slots.now c.args.port.now

pub loop-k-preserved : goal.loop-k-preserved
loop-k-preserved c =
    set_next (OfSlotSend c.args.topic) c.loop-k.k c.send_into-answer.result c.args.slots.now c.loop-k.slots c.args.port.now c.loop-k.port c.send_into-answer.new.port _ _ c.loop-k.invariant c.loop-k-test.true
    (let ok = c.if-answer-ne-OK.false in omega (arith, ok)) (record { told_is = refl; sent = c.send_into-answer.ensures })

pub returns-then-answer-ne-OK : goal.returns-then-answer-ne-OK
returns-then-answer-ne-OK c =
    stopped_at (OfSlotSend c.args.topic) c.loop-k.k c.send_into-answer.result c.args.slots.now c.loop-k.slots c.args.port.now c.loop-k.port c.send_into-answer.new.port _ _ c.loop-k.invariant c.loop-k-test.true
    (let no = c.if-answer-ne-OK.true in omega (arith, no)) (record { told_is = refl; sent = c.send_into-answer.ensures })

pub returns : goal.returns
returns c =
    all_done (OfSlotSend c.args.topic) c.loop-k.k c.args.slots.now c.loop-k.slots c.args.port.now c.loop-k.port c.loop-k.invariant (let past = c.loop-k-test.false in omega (arith, past))
