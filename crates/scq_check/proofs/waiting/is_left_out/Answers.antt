use Rattle.std.proofs.Common.{rules}
use Rattle.scq_check.proofs.WaitingLemmas.{left_out_by, never_every, never_later}
use Rattle.scq_check.proofs.waiting.is_left_out.Goals as goal

pub returns-in-Some : goal.returns-in-Some
returns-in-Some c = left_out_by _ _ _ _ _ _ c.in-Some.ensures (search rules)

pub returns-in-Every : goal.returns-in-Every
returns-in-Every c = never_every _ _ _ _ c.in-Every.is c.in-None.ensures

pub returns-in-GotLater : goal.returns-in-GotLater
returns-in-GotLater c = never_later _ _ _ _ c.in-GotLater.is c.in-None.ensures
