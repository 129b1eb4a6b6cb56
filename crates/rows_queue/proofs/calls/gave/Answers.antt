use Rattle.scq_queue.proofs.HeldOnce.{last_held, holds_less, holds_again, put_refused}
use Rattle.rows_queue.proofs.calls.gave.Goals as goal

pub give_back-requires-clause-held : goal.give_back-requires-clause-held
give_back-requires-clause-held g c κs within = last_held _ c.in-Some.ensures.items c.requires.stack

pub returns-in-Ok : goal.returns-in-Ok
returns-in-Ok g c = record { stack = holds_less _ _ _ _ c.in-Some.ensures.items c.requires.stack c.in-Ok.ensures.given.pass }

pub returns-in-Err : goal.returns-in-Err
returns-in-Err g c =
    let e = c.in-Err.ensures in
    let alike = put_refused c.args.pass.now c.give_back.new.pass e.kept 0 c.in-Err.spent.ticket e.spent in
    record { stack = holds_again _ c.in-Some.ensures.items c.requires.stack e.back c.push_reserved.ensures.items alike }
