use Rattle.scq_c.proofs.Somes.{if_ok_at, err_of}
use Rattle.scq_c.proofs.Codes.{send_sent, send_spent, send_not_held, send_no_topic, send_retired}
use Rattle.scq_c.proofs.exports.tell_send.Goals as goal

pub returns-in-Ok : goal.returns-in-Ok
returns-in-Ok c x y index topic said = send_sent (if_ok_at _ _ _ said.sent c.in-Ok.is)

pub returns-in-NoTopic : goal.returns-in-NoTopic
returns-in-NoTopic c x y index topic said = send_no_topic (said.no_topic (err_of c.args.answer c.in-Err.refusal _ c.in-Err.is c.in-NoTopic.is))

pub returns-in-NotHeld : goal.returns-in-NotHeld
returns-in-NotHeld c x y index topic said = send_not_held (said.not_held (err_of c.args.answer c.in-Err.refusal _ c.in-Err.is c.in-NotHeld.is))

pub returns-in-Spent : goal.returns-in-Spent
returns-in-Spent c x y index topic said = send_spent (said.spent c.in-Spent.ticket (err_of c.args.answer c.in-Err.refusal _ c.in-Err.is c.in-Spent.is))

pub returns-in-Retired : goal.returns-in-Retired
returns-in-Retired c x y index topic said = send_retired (said.retired (err_of c.args.answer c.in-Err.refusal _ c.in-Err.is c.in-Retired.is))
