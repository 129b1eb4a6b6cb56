use Rattle.std.proofs.Common.{arith}
use Rattle.scq_collect.proofs.Cutting.{message-cut}
use Rattle.scq_collect.proofs.messages.message_end.Goals as goal

pub returns-clause-message : goal.returns-clause-message
returns-clause-message c =
    let ends = c.next_start.ensures in
    message-cut c.args.spots.now c.args.at c.next_start.result (omega (arith, ends.within.0)) ends.within.1 ends.between ends.begins
