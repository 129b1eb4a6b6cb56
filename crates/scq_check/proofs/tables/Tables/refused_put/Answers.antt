use Rattle.std.proofs.Common.{true}
use Rattle.scq_hist.specs.Exports.{NoPutEnds}
use Rattle.scq_hist.proofs.EndedLemmas.{not_spent, spent_call}
use Rattle.scq_check.proofs.tables.Tables.refused_put.Goals as goal

pub returns-in_err-put : goal.returns-in_err-put
returns-in_err-put c =
    let ends : NoPutEnds c.args.events.now c.args.e = c.in_err-put.ensures in
    rw c.from_residual.ensures (ends.none true)

pub returns-then-not-put : goal.returns-then-not-put
returns-then-not-put c = not_spent _ _ _ c.in_ok-put.ensures c.if-not-put.true

pub returns : goal.returns
returns c = let ends = c.in_ok-put.ensures in record { content = ends.content; call = spent_call _ _ _ ends c.if-not-put.false }
