-- What is seen of the queue of a run's workers, and how they waited, by what was asked.
use Rattle.std.proofs.Common.{refl, ap, ◌∙◌, true, map, string_bytes, Err}
use Rattle.scq_words.specs.Exports.{asked_for_run}
use Rattle.scq_service.specs.Exports.{names_in}
use Rattle.scq_service.specs.declared.naming.Names.TheVariants.{These}
use Rattle.scq_service.proofs.Named.{named-as, unnamed}
use Rattle.scq_service.proofs.Seen.{unseen}
use Rattle.scq_service.proofs.serving_waiting.run_waiting.Goals as goal

pub returns-in-Ok-clause-seen : goal.returns-in-Ok-clause-seen
returns-in-Ok-clause-seen g c = rw c.in-Ok.ensures.request c.run_files_waiting.ensures.tells.seen

pub returns-in-Ok-clause-attended : goal.returns-in-Ok-clause-attended
returns-in-Ok-clause-attended g c = rw c.in-Ok.ensures.request c.run_files_waiting.ensures.waits

pub returns-in-Err-Refused-clause-seen : goal.returns-in-Err-Refused-clause-seen
returns-in-Err-Refused-clause-seen g c =
    rw (
      c.read_run_words.ensures.refused c.in-Err-Refused.fault (c.in-Err-Refused.is ∙ ap Err c.in-Err-Refused.field-0-is),
      c.quiet.ensures.outcome,
      c.at.ensures.left.0,
    ) refl

pub returns-in-Err-Refused-clause-attended : goal.returns-in-Err-Refused-clause-attended
returns-in-Err-Refused-clause-attended g c =
    rw (
      c.read_run_words.ensures.refused c.in-Err-Refused.fault (c.in-Err-Refused.is ∙ ap Err c.in-Err-Refused.field-0-is),
      c.quiet.ensures.outcome,
      c.at.ensures.waited,
    ) refl

pub returns-in-Err-NoMemory-clause-seen : goal.returns-in-Err-NoMemory-clause-seen
returns-in-Err-NoMemory-clause-seen g c =
    rw (c.quiet-in-Err-NoMemory.ensures.outcome, c.at-in-Err-NoMemory.ensures.fault, c.at-in-Err-NoMemory.ensures.left.0) (unseen _)

pub returns-in-Err-NoMemory-clause-attended : goal.returns-in-Err-NoMemory-clause-attended
returns-in-Err-NoMemory-clause-attended g c =
    rw (c.quiet-in-Err-NoMemory.ensures.outcome, c.at-in-Err-NoMemory.ensures.fault, c.at-in-Err-NoMemory.ensures.waited) (unseen _)

-- the names that are kept are those of the files that are asked for
pub returns-in-Ok-clause-named : goal.returns-in-Ok-clause-named
returns-in-Ok-clause-named g c =
    let words = map string_bytes c.args.words.now in
    named-as true words (asked_for_run words) (names_in (These c.in-Ok.asked.files)) c.run_files_waiting.result.fault (rw c.in-Ok.ensures.request refl)

pub returns-in-Err-Refused-clause-named : goal.returns-in-Err-Refused-clause-named
returns-in-Err-Refused-clause-named g c =
    let words = map string_bytes c.args.words.now in
    named-as true words (asked_for_run words) (names_in c.quiet.result.names) c.quiet.result.outcome.fault
    (rw (
      c.read_run_words.ensures.refused c.in-Err-Refused.fault (c.in-Err-Refused.is ∙ ap Err c.in-Err-Refused.field-0-is),
      c.quiet.ensures.names,
    ) refl)

pub returns-in-Err-NoMemory-clause-named : goal.returns-in-Err-NoMemory-clause-named
returns-in-Err-NoMemory-clause-named g c =
    let words = map string_bytes c.args.words.now in
    unnamed true words (asked_for_run words) (names_in c.quiet-in-Err-NoMemory.result.names) c.quiet-in-Err-NoMemory.result.outcome.fault
    (rw c.quiet-in-Err-NoMemory.ensures.outcome c.at-in-Err-NoMemory.ensures.fault)

-- nothing is told at no object
pub returns-in-Err-Refused-clause-caused : goal.returns-in-Err-Refused-clause-caused
returns-in-Err-Refused-clause-caused g c = rw (c.quiet.ensures.outcome, c.at.ensures.fault) c.at.ensures.cause

pub returns-in-Err-NoMemory-clause-caused : goal.returns-in-Err-NoMemory-clause-caused
returns-in-Err-NoMemory-clause-caused g c =
    rw (c.quiet-in-Err-NoMemory.ensures.outcome, c.at-in-Err-NoMemory.ensures.fault) c.at-in-Err-NoMemory.ensures.cause
