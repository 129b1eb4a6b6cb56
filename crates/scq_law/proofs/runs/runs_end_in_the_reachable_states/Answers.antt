use Rattle.scq_law.proofs.Replays.RunLaws.{run_reaches, reached_by_run}
use Rattle.scq_law.proofs.runs.runs_end_in_the_reachable_states.Goals as goal

pub returns : goal.returns
returns c = record {
  reached = λ setup opening steps recorded run. run_reaches setup opening steps recorded run;
  no_others = λ setup m reach. reached_by_run setup m reach;
}
