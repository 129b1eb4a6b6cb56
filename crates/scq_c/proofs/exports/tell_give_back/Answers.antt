use Rattle.scq_c.proofs.Somes.{if_ok_at, err_of}
use Rattle.scq_c.proofs.Codes.{give_given, give_spent, give_not_held}
use Rattle.scq_c.proofs.exports.tell_give_back.Goals as goal

pub returns-in-Ok : goal.returns-in-Ok
returns-in-Ok c x y index said = give_given (if_ok_at _ _ _ said.given c.in-Ok.is)

pub returns-in-NotHeld : goal.returns-in-NotHeld
returns-in-NotHeld c x y index said = give_not_held (said.not_held (err_of c.args.answer c.in-Err.refusal _ c.in-Err.is c.in-NotHeld.is))

pub returns-in-Spent : goal.returns-in-Spent
returns-in-Spent c x y index said = give_spent c.in-Spent.ticket (said.spent c.in-Spent.ticket (err_of c.args.answer c.in-Err.refusal _ c.in-Err.is c.in-Spent.is))
