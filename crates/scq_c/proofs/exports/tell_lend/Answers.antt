use Rattle.scq_c.proofs.Somes.{if_ok_at, err_of}
use Rattle.scq_c.proofs.Codes.{lend_lent, lend_full, lend_spent, lend_no_room}
use Rattle.scq_c.proofs.exports.tell_lend.Goals as goal

pub returns-in-Ok : goal.returns-in-Ok
returns-in-Ok c x y said = lend_lent c.show.ensures (if_ok_at _ _ _ said.lent c.in-Ok.is)

pub returns-in-NoRoom : goal.returns-in-NoRoom
returns-in-NoRoom c x y said = lend_no_room (said.no_room (err_of c.args.answer c.in-Err.refusal _ c.in-Err.is c.in-NoRoom.is))

pub returns-in-Full : goal.returns-in-Full
returns-in-Full c x y said = lend_full (said.full c.in-Full.head (err_of c.args.answer c.in-Err.refusal _ c.in-Err.is c.in-Full.is))

pub returns-in-Spent : goal.returns-in-Spent
returns-in-Spent c x y said = lend_spent (said.spent c.in-Spent.ticket (err_of c.args.answer c.in-Err.refusal _ c.in-Err.is c.in-Spent.is))
