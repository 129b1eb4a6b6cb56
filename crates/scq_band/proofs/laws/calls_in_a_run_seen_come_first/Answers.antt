use Rattle.scq_band.proofs.SeenCalls.{any_seen_comes_first}
use Rattle.scq_band.proofs.laws.calls_in_a_run_seen_come_first.Goals as goal

pub returns : goal.returns
returns c = any_seen_comes_first
