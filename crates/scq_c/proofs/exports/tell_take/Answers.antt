use Rattle.scq_c.proofs.Somes.{if_ok_at, err_of}
use Rattle.scq_c.proofs.Codes.{take_taken, take_empty, take_spent, take_no_topic, take_no_room}
use Rattle.scq_c.proofs.exports.tell_take.Goals as goal

pub returns-in-Ok : goal.returns-in-Ok
returns-in-Ok c x y topic said = take_taken c.show.ensures (if_ok_at _ _ _ said.taken c.in-Ok.is)

pub returns-in-NoTopic : goal.returns-in-NoTopic
returns-in-NoTopic c x y topic said = take_no_topic (said.no_topic (err_of c.args.answer c.in-Err.refusal _ c.in-Err.is c.in-NoTopic.is))

pub returns-in-NoRoom : goal.returns-in-NoRoom
returns-in-NoRoom c x y topic said = take_no_room (said.no_room (err_of c.args.answer c.in-Err.refusal _ c.in-Err.is c.in-NoRoom.is))

pub returns-in-Empty : goal.returns-in-Empty
returns-in-Empty c x y topic said = take_empty (said.empty c.in-Empty.head (err_of c.args.answer c.in-Err.refusal _ c.in-Err.is c.in-Empty.is))

pub returns-in-Spent : goal.returns-in-Spent
returns-in-Spent c x y topic said = take_spent (said.spent c.in-Spent.ticket (err_of c.args.answer c.in-Err.refusal _ c.in-Err.is c.in-Spent.is))
