use Rattle.scq_law.proofs.Replays.RunPrefixes.{prefix_of_run}
use Rattle.scq_law.proofs.history.prefixes_are_runs.Goals as goal

pub returns : goal.returns
returns k c opening front steps recorded one run = prefix_of_run c opening front steps recorded one run
