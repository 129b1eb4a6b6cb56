use Rattle.std.proofs.Common.{suc}
use Rattle.scq_queue.proofs.HeldOnce.{last_held, holds_less, holds_again, put_refused}
use Rattle.rows_queue.proofs.calls.sent.Goals as goal

pub send-requires-clause-held : goal.send-requires-clause-held
send-requires-clause-held g c κs within = last_held _ c.in-Some.ensures.items c.requires.stack

pub returns-in-Ok : goal.returns-in-Ok
returns-in-Ok g c = record { stack = holds_less _ _ _ _ c.in-Some.ensures.items c.requires.stack c.in-Ok.ensures.sent.pass }

pub returns-in-Err : goal.returns-in-Err
returns-in-Err g c =
    let e = c.in-Err.ensures in
    let alike = put_refused c.args.pass.now c.send.new.pass e.kept (suc c.args.topic) c.in-Err.spent.ticket e.spent in
    record { stack = holds_again _ c.in-Some.ensures.items c.requires.stack e.back c.push_reserved.ensures.items alike }
