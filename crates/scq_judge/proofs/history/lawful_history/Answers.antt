use Rattle.std.proofs.Common.{List, Option, subst}
use Rattle.std.specs.Prelude.{MatchOption}
use Rattle.scq_judge.specs.Exports.{AreOfOneRun, IsOfAnotherRun}
use Rattle.scq_judge.specs.declared.recorded.RunOf.{RunOf}
use Rattle.scq_judge.proofs.history.lawful_history.Goals as goal

abbrev Found : List RunOf → Option (RunOf × RunOf) → Type 0
Found runs found = MatchOption found (AreOfOneRun runs) (λ pair. IsOfAnotherRun runs pair.0 pair.1)

pub history_of_one_run-requires : goal.history_of_one_run-requires
history_of_one_run-requires c =
    subst (λ o. Found c.args.recorded.runs o) c.in-None.is (subst (λ rs. Found rs c.first_other_run.result) c.runs.ensures c.first_other_run.ensures)

pub returns-in-Some-clause-refused : goal.returns-in-Some-clause-refused
returns-in-Some-clause-refused c =
    subst (λ o. Found c.args.recorded.runs o) c.in-Some.is (subst (λ rs. Found rs c.first_other_run.result) c.runs.ensures c.first_other_run.ensures)
