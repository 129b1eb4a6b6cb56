use Rattle.scq_judge.proofs.SeatLemmas.{away_there, homes_all}
use Rattle.scq_judge.proofs.seats.first_apart.Goals as goal

pub returns-in-Some : goal.returns-in-Some
returns-in-Some c = away_there _ _ _ _ _ c.at.ensures c.in-Some.ensures

pub returns : goal.returns
returns c = homes_all _ _ _ c.loop-i-test.false c.loop-i.invariant
