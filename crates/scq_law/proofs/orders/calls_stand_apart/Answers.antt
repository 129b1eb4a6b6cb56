use Rattle.scq_law.proofs.Order.CallSpans.{calls_apart}
use Rattle.scq_law.proofs.orders.calls_stand_apart.Goals as goal

pub returns : goal.returns
returns c run recorded moment seat calls is_run rests = calls_apart run recorded is_run moment seat calls rests
