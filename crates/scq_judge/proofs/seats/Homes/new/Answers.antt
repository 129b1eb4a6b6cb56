use Rattle.scq_judge.proofs.SeatLemmas.{homes_start}
use Rattle.scq_judge.proofs.seats.Homes.new.Goals as goal

pub returns : goal.returns
returns c = λ events. homes_start events _ c.new.ensures.empty
