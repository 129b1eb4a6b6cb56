use Rattle.scq_hist.proofs.UnderWay.{must_start, starts_there}
use Rattle.scq_check.proofs.calls.Calls.call_under_way.Goals as goal

pub returns-in_err-call_started : goal.returns-in_err-call_started
returns-in_err-call_started c = absurd (must_start _ _ _ _ c.in_ok-start.ensures c.in_err-call_started.ensures)

pub returns : goal.returns
returns c =
    let call = starts_there _ _ _ _ _ c.in_ok-start.ensures c.in_ok-call_started.ensures in
    record { s = c.in_ok-start.start; is = call.is; starts = call.starts }
