use Rattle.scq_law.proofs.Aspects.EmptyCalls.{empty_at_call}
use Rattle.scq_law.proofs.history.empties_are_right_at_their_call.Goals as goal

pub returns : goal.returns
returns k c opening before after seat r calls one was now = empty_at_call c opening before after seat r calls one was now
