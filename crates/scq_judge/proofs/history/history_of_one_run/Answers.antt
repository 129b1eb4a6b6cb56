use Rattle.std.proofs.Common.{List, Option, subst}
use Rattle.std.specs.Prelude.{MatchOption}
use Rattle.scq_judge.specs.Exports.{EachSeatInOneFile, HasSeatOfAnother}
use Rattle.scq_judge.specs.declared.recorded.Stamped.{Stamped}
use Rattle.scq_judge.specs.declared.seats.Apart.{Apart}
use Rattle.scq_judge.proofs.history.history_of_one_run.Goals as goal

abbrev Found : List Stamped → Option Apart → Type 0
Found events found = MatchOption found (EachSeatInOneFile events) (λ apart. HasSeatOfAnother events apart.place apart.other)

pub history_apart-requires-clause-seats : goal.history_apart-requires-clause-seats
history_apart-requires-clause-seats c =
    subst (λ o. Found c.args.recorded.events o) c.in-Ok-None.field-0-is
    (subst (λ es. Found es c.in-Ok-None.field-0) c.events.ensures c.in-Ok-None.ensures)

pub returns-in-Ok-Some-clause-refused : goal.returns-in-Ok-Some-clause-refused
returns-in-Ok-Some-clause-refused c =
    rw c.sharing.ensures
    (subst (λ o. Found c.args.recorded.events o) c.in-Ok-Some.field-0-is
    (subst (λ es. Found es c.in-Ok-Some.field-0) c.events.ensures c.in-Ok-Some.ensures))
