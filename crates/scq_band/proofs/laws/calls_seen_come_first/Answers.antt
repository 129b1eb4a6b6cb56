use Rattle.scq_band.proofs.SeenCalls.{seen_comes_first}
use Rattle.scq_band.proofs.laws.calls_seen_come_first.Goals as goal

pub returns : goal.returns
returns c = seen_comes_first
