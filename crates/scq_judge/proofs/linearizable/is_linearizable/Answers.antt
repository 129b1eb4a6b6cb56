use Rattle.scq_judge.proofs.RightLemmas.{order_told, some_under_way}
use Rattle.scq_judge.proofs.linearizable.is_linearizable.Goals as goal

pub returns-then-never_ended-gt0 : goal.returns-then-never_ended-gt0
returns-then-never_ended-gt0 c = λ opening history lawful are count. some_under_way opening history _ c.if-never_ended-gt0.true count

pub returns : goal.returns
returns c = λ opening history lawful are count. order_told opening history _ _ _ c.if-never_ended-gt0.false lawful are count c.all_hold.ensures
