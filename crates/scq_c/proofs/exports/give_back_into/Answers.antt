use Rattle.scq_c.proofs.exports.give_back_into.Goals as goal

pub returns : goal.returns
returns c = c.tell_give_back.ensures _ _ _ c.give_back.ensures
