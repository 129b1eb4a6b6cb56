use Rattle.std.proofs.Common.{refl}
use Rattle.scq_check.proofs.WaitingLemmas.{put_left_out, no_put}
use Rattle.scq_check.proofs.waiting.is_put_left_out.Goals as goal

pub returns-in-Some : goal.returns-in-Some
returns-in-Some c = λ m lt. put_left_out _ _ _ _ _ _ _ _ lt c.in-Some.ensures c.is_left_out.ensures

pub returns-in-None : goal.returns-in-None
returns-in-None c = λ m lt. (λ _. no_put _ _ _ _ _ _ c.in-None.ensures, λ _. refl)
