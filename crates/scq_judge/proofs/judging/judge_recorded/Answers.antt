use Rattle.std.proofs.Common.{map}
use Rattle.std.specs.Prelude.{string_bytes}
use Rattle.std.proofs.lemmas.Result.{IfOk-weaker, IfErr-weaker}
use Rattle.scq_judge.specs.Exports.{IsReported, IsCauseIn}
use Rattle.scq_judge.proofs.JudgeLemmas.{cause_of_memory}
use Rattle.scq_judge.proofs.judging.judge_recorded.Goals as goal

pub returns-clause-reported : goal.returns-clause-reported
returns-clause-reported c =
    let it = c.in_ok-merged.ensures.history in
    IfOk-weaker c.judge_lawful.result _ (IsReported (map string_bytes c.args.names.now) c.args.room c.args.recorded)
    (λ judged h. record {
      runs = it.runs;
      seats = it.seats;
      opening = c.in_ok-merged.merged.opening.items;
      events = c.in_ok-merged.merged.events.items;
      places = c.in_ok-merged.merged.places.items;
      history = it.history;
      reported = h;
    }) (rw (c.as_slice-opening.ensures.value, c.as_slice-events.ensures.value, c.as_slice-places.ensures.value) at c.judge_lawful.ensures.reported)

pub returns-clause-refused : goal.returns-clause-refused
returns-clause-refused c =
    IfErr-weaker c.judge_lawful.result _ (IsCauseIn c.args.recorded) (λ fault is. cause_of_memory c.args.recorded fault is) c.judge_lawful.ensures.refused
