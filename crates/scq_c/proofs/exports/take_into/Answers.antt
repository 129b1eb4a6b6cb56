use Rattle.scq_c.proofs.exports.take_into.Goals as goal

pub returns : goal.returns
returns c = c.tell_take.ensures _ _ _ c.take.ensures
