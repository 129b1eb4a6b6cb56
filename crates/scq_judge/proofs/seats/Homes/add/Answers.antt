use Rattle.std.proofs.Common.{sym, ◌∙◌}
use Rattle.scq_judge.proofs.SeatLemmas.{homes_kept, homes_more}
use Rattle.scq_check.proofs.Orders.{by_number}
use Rattle.scq_judge.proofs.seats.Homes.add.Goals as goal

pub returns-in-Some : goal.returns-in-Some
returns-in-Some c =
    homes_kept _ _ _ _ _ c.args.self.now (sym c.get.ensures ∙ c.in-Some.is) c.at-seat.ensures c.requires.at_home c.requires.homes

pub returns-in_ok-insert-in-None : goal.returns-in_ok-insert-in-None
returns-in_ok-insert-in-None c =
    homes_more _ _ _ _ c.args.self.now _ (sym c.get.ensures ∙ c.in-None.is) c.at-seat.ensures (λ q. by_number _ q _ _ _ (c.in_ok-insert-in-None.ensures.updates.0 q)) c.requires.homes
