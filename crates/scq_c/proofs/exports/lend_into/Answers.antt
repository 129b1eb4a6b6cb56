use Rattle.scq_c.proofs.exports.lend_into.Goals as goal

pub returns : goal.returns
returns c = c.tell_lend.ensures _ _ c.lend.ensures
