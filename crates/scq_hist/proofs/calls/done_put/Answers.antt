use Rattle.std.proofs.Common.{◌<◌, false, length, arith}
use Rattle.std.proofs.lemmas.Option.{slice_get_within}
use Rattle.scq_hist.specs.Exports.{EndsPut, NoPutEnds}
use Rattle.scq_hist.proofs.EndedLemmas.{done_there, none_done, refused_here, done_elsewhere}
use Rattle.scq_hist.proofs.calls.done_put.Goals as goal

pub puts_before-number-requires : goal.puts_before-number-requires
puts_before-number-requires c =
    let is : EndsPut c.args.events.now c.args.e c.in_ok-put.put = c.in_ok-put.ensures in
    let within : c.in_ok-put.put.start < length c.args.events.now = slice_get_within c.args.events.now c.in_ok-put.put.start _ is.call.starts in
    omega arith

pub returns-in_err-put : goal.returns-in_err-put
returns-in_err-put c =
    let ends : NoPutEnds c.args.events.now c.args.e = c.in_err-put.ensures in
    rw c.from_residual.ensures (none_done _ _ _ (ends.none false))

pub returns-then-put : goal.returns-then-put
returns-then-put c = refused_here _ _ _ _ c.in_ok-put.ensures c.if-put.true

pub returns-then-put-queue : goal.returns-then-put-queue
returns-then-put-queue c = done_elsewhere _ _ _ _ c.in_ok-put.ensures c.if-put-queue.true

pub returns : goal.returns
returns c = done_there _ _ _ _ _ c.in_ok-put.ensures c.if-put.false c.if-put-queue.false (omega (arith, c.puts_before-number.ensures.count))
