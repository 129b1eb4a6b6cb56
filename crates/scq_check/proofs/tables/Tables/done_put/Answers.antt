use Rattle.std.proofs.Common.{false}
use Rattle.std.proofs.lemmas.Option.{slice_get_within}
use Rattle.scq_hist.specs.Exports.{EndsPut, NoPutEnds}
use Rattle.scq_hist.proofs.EndedLemmas.{done_there, none_done, refused_here, done_elsewhere}
use Rattle.scq_check.proofs.EndedLemmas.{counted}
use Rattle.scq_check.proofs.tables.Tables.done_put.Goals as goal

pub returns-in_err-put : goal.returns-in_err-put
returns-in_err-put c =
    let ends : NoPutEnds c.args.events.now c.args.e = c.in_err-put.ensures in
    rw c.from_residual.ensures (none_done _ _ _ (ends.none false))

pub returns-then-put : goal.returns-then-put
returns-then-put c = refused_here _ _ _ _ c.in_ok-put.ensures c.if-put.true

pub returns-then-put-queue : goal.returns-then-put-queue
returns-then-put-queue c = done_elsewhere _ _ _ _ c.in_ok-put.ensures c.if-put-queue.true

pub returns : goal.returns
returns c =
    done_there _ _ _ _ _ c.in_ok-put.ensures c.if-put.false c.if-put-queue.false
    (counted _ _ _ _ c.in_ok-put.ensures c.number-number.ensures)

pub number-number-requires-clause-within : goal.number-number-requires-clause-within
number-number-requires-clause-within c =
    let is : EndsPut c.args.events.now c.args.e c.in_ok-put.put = c.in_ok-put.ensures in slice_get_within c.args.events.now _ _ is.call.starts
