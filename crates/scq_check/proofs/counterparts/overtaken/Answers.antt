use Rattle.std.proofs.Common.{◌<◌, length, arith}
use Rattle.std.proofs.lemmas.Option.{slice_get_within}
use Rattle.scq_hist.proofs.OrderLemmas.{no_put_in_order}
use Rattle.scq_check.proofs.CounterpartLemmas.{fails_there}
use Rattle.scq_check.proofs.counterparts.overtaken.Goals as goal

pub returns-in_err-start-clause-first : goal.returns-in_err-start-clause-first
returns-in_err-start-clause-first c =
    absurd (fails_there _ _ _ c.in_ok-e.was c.requires.failures.first (no_put_in_order c.args.opening.now _ _ c.in_err-start.ensures))

pub find_waiting-requires-clause-within : goal.find_waiting-requires-clause-within
find_waiting-requires-clause-within c =
    let before : c.in_ok-start.start < length c.args.events.now = slice_get_within c.args.events.now c.in_ok-start.start _ c.in_ok-start.ensures.put.starts in
    omega arith
