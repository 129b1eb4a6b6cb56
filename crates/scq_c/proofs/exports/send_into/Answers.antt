use Rattle.scq_c.proofs.exports.send_into.Goals as goal

pub returns : goal.returns
returns c = c.tell_send.ensures _ _ _ _ c.send.ensures
