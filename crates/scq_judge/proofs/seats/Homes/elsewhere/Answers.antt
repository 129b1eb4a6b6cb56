use Rattle.std.proofs.Common.{sym, ◌∙◌}
use Rattle.scq_judge.proofs.SeatLemmas.{home_decides, home_none}
use Rattle.scq_judge.proofs.seats.Homes.elsewhere.Goals as goal

pub returns-in-None : goal.returns-in-None
returns-in-None c = home_none _ _ _ _ c.args.self.now (sym c.get.ensures ∙ c.in-None.is) c.at-seat.ensures c.requires.homes

pub returns-in-Some : goal.returns-in-Some
returns-in-Some c =
    home_decides _ _ _ _ _ c.args.self.now _ (sym c.get.ensures ∙ c.in-Some.is) c.if_elsewhere.ensures c.at-seat.ensures c.requires.homes
