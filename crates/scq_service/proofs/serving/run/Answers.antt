-- What is seen of the queue of a run's workers, by what was asked.
use Rattle.std.proofs.Common.{refl, ap, ◌∙◌, false, map, string_bytes, Err}
use Rattle.scq_words.specs.Exports.{asked}
use Rattle.scq_service.specs.Exports.{names_in}
use Rattle.scq_service.specs.declared.naming.Names.TheVariants.{These}
use Rattle.scq_service.proofs.Named.{named-as, unnamed}
use Rattle.scq_service.proofs.Seen.{unseen, none-seen}
use Rattle.scq_service.proofs.serving.run.Goals as goal

pub returns-in-Ok-Run-clause-seen : goal.returns-in-Ok-Run-clause-seen
returns-in-Ok-Run-clause-seen g c = rw (c.in-Ok-Run.ensures.request, c.in-Ok-Run.field-0-is) c.run_files.ensures.tells.seen

pub returns-in-Ok-SelfRun-clause-seen : goal.returns-in-Ok-SelfRun-clause-seen
returns-in-Ok-SelfRun-clause-seen g c =
    rw (c.in-Ok-SelfRun.ensures.request, c.in-Ok-SelfRun.field-0-is, c.quiet.ensures.outcome) c.run_self.ensures.tells.seen

-- a run over one whole file has no workers
pub returns-in-Ok-Text-clause-left : goal.returns-in-Ok-Text-clause-left
returns-in-Ok-Text-clause-left g c = rw (c.quiet-in-Ok-Text.ensures.outcome, c.run_text.ensures.workless.left) tt

pub returns-in-Ok-Text-clause-seen : goal.returns-in-Ok-Text-clause-seen
returns-in-Ok-Text-clause-seen g c =
    rw (c.in-Ok-Text.ensures.request, c.in-Ok-Text.field-0-is, c.quiet-in-Ok-Text.ensures.outcome, c.run_text.ensures.workless.left) refl

pub returns-in-Err-Refused-clause-seen : goal.returns-in-Err-Refused-clause-seen
returns-in-Err-Refused-clause-seen g c =
    rw (
      c.read_words.ensures.refused c.in-Err-Refused.fault (c.in-Err-Refused.is ∙ ap Err c.in-Err-Refused.field-0-is),
      c.quiet-in-Err-Refused.ensures.outcome,
      c.at.ensures.left.0,
    ) refl

pub returns-in-Err-NoMemory-clause-seen : goal.returns-in-Err-NoMemory-clause-seen
returns-in-Err-NoMemory-clause-seen g c =
    rw (c.quiet-in-Err-NoMemory.ensures.outcome, c.at-in-Err-NoMemory.ensures.fault, c.at-in-Err-NoMemory.ensures.left.0) (unseen _)

-- workers that leave early don't wait
pub returns-in-Ok-Run-clause-leaves : goal.returns-in-Ok-Run-clause-leaves
returns-in-Ok-Run-clause-leaves g c = none-seen _ c.run_files.ensures.leaves

pub returns-in-Ok-SelfRun-clause-leaves : goal.returns-in-Ok-SelfRun-clause-leaves
returns-in-Ok-SelfRun-clause-leaves g c = rw c.quiet.ensures.outcome c.run_self.ensures.tells.leaves

pub returns-in-Ok-Text-clause-leaves : goal.returns-in-Ok-Text-clause-leaves
returns-in-Ok-Text-clause-leaves g c = rw c.quiet-in-Ok-Text.ensures.outcome c.run_text.ensures.workless.leaves

-- of the queue of stages nothing is seen beside what was finished
pub returns-in-Ok-Stages-clause-left : goal.returns-in-Ok-Stages-clause-left
returns-in-Ok-Stages-clause-left g c = rw (c.quiet-in-Ok-Stages.ensures.outcome, c.run_stages.ensures.tells.left) tt

pub returns-in-Ok-Stages-clause-seen : goal.returns-in-Ok-Stages-clause-seen
returns-in-Ok-Stages-clause-seen g c =
    rw (c.in-Ok-Stages.ensures.request, c.in-Ok-Stages.field-0-is, c.quiet-in-Ok-Stages.ensures.outcome, c.run_stages.ensures.tells.left) refl

pub returns-in-Ok-Stages-clause-leaves : goal.returns-in-Ok-Stages-clause-leaves
returns-in-Ok-Stages-clause-leaves g c = rw c.quiet-in-Ok-Stages.ensures.outcome c.run_stages.ensures.tells.leaves

-- the names that are kept are those of the files that are asked for
pub returns-in-Ok-Run-clause-named : goal.returns-in-Ok-Run-clause-named
returns-in-Ok-Run-clause-named g c =
    let words = map string_bytes c.args.words.now in
    named-as false words (asked words) (names_in (These c.in-Ok-Run.asked.files)) c.run_files.result.fault
    (rw (c.in-Ok-Run.ensures.request, c.in-Ok-Run.field-0-is) refl)

pub returns-in-Ok-SelfRun-clause-named : goal.returns-in-Ok-SelfRun-clause-named
returns-in-Ok-SelfRun-clause-named g c =
    let words = map string_bytes c.args.words.now in
    named-as false words (asked words) (names_in c.quiet.result.names) c.quiet.result.outcome.fault
    (rw (c.in-Ok-SelfRun.ensures.request, c.in-Ok-SelfRun.field-0-is, c.quiet.ensures.names) refl)

pub returns-in-Ok-Judge-clause-named : goal.returns-in-Ok-Judge-clause-named
returns-in-Ok-Judge-clause-named g c =
    let words = map string_bytes c.args.words.now in
    named-as false words (asked words) (names_in c.quiet-in-Ok-Judge.result.names) c.quiet-in-Ok-Judge.result.outcome.fault
    (rw (c.in-Ok-Judge.ensures.request, c.in-Ok-Judge.field-0-is, c.quiet-in-Ok-Judge.ensures.names) refl)

pub returns-in-Ok-Text-clause-named : goal.returns-in-Ok-Text-clause-named
returns-in-Ok-Text-clause-named g c =
    let words = map string_bytes c.args.words.now in
    named-as false words (asked words) (names_in c.quiet-in-Ok-Text.result.names) c.quiet-in-Ok-Text.result.outcome.fault
    (rw (c.in-Ok-Text.ensures.request, c.in-Ok-Text.field-0-is, c.quiet-in-Ok-Text.ensures.names) refl)

pub returns-in-Ok-Stages-clause-named : goal.returns-in-Ok-Stages-clause-named
returns-in-Ok-Stages-clause-named g c =
    let words = map string_bytes c.args.words.now in
    named-as false words (asked words) (names_in c.quiet-in-Ok-Stages.result.names) c.quiet-in-Ok-Stages.result.outcome.fault
    (rw (c.in-Ok-Stages.ensures.request, c.in-Ok-Stages.field-0-is, c.quiet-in-Ok-Stages.ensures.names) refl)

pub returns-in-Err-Refused-clause-named : goal.returns-in-Err-Refused-clause-named
returns-in-Err-Refused-clause-named g c =
    let words = map string_bytes c.args.words.now in
    named-as false words (asked words) (names_in c.quiet-in-Err-Refused.result.names) c.quiet-in-Err-Refused.result.outcome.fault
    (rw (
      c.read_words.ensures.refused c.in-Err-Refused.fault (c.in-Err-Refused.is ∙ ap Err c.in-Err-Refused.field-0-is),
      c.quiet-in-Err-Refused.ensures.names,
    ) refl)

pub returns-in-Err-NoMemory-clause-named : goal.returns-in-Err-NoMemory-clause-named
returns-in-Err-NoMemory-clause-named g c =
    let words = map string_bytes c.args.words.now in
    unnamed false words (asked words) (names_in c.quiet-in-Err-NoMemory.result.names) c.quiet-in-Err-NoMemory.result.outcome.fault
    (rw c.quiet-in-Err-NoMemory.ensures.outcome c.at-in-Err-NoMemory.ensures.fault)

-- what is told of an end without files, or at no object
pub returns-in-Ok-SelfRun-clause-caused : goal.returns-in-Ok-SelfRun-clause-caused
returns-in-Ok-SelfRun-clause-caused g c = rw c.quiet.ensures.outcome (c.run_self.ensures.caused (g.F.Files.cause c.args.files.now))

pub returns-in-Err-Refused-clause-caused : goal.returns-in-Err-Refused-clause-caused
returns-in-Err-Refused-clause-caused g c = rw (c.quiet-in-Err-Refused.ensures.outcome, c.at.ensures.fault) c.at.ensures.cause

pub returns-in-Err-NoMemory-clause-caused : goal.returns-in-Err-NoMemory-clause-caused
returns-in-Err-NoMemory-clause-caused g c =
    rw (c.quiet-in-Err-NoMemory.ensures.outcome, c.at-in-Err-NoMemory.ensures.fault) c.at-in-Err-NoMemory.ensures.cause
