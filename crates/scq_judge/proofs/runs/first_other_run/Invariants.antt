use Rattle.scq_judge.specs.Exports.{AreOfRun}
use Rattle.scq_judge.proofs.runs.first_other_run.Given as goal

abbrev pub invariant-loop-run : goal.invariant-loop-run
invariant-loop-run l = AreOfRun l.runs l.run-index l.first
