use Rattle.std.proofs.Common.{◌≡◌, ◌⊎◌, inl, inr, Err, refl, ap}
use Rattle.scq_hist.proofs.HandedOn.{handed_on}
use Rattle.scq_lines.specs.Exports.{lines_of}
use Rattle.scq_replay.specs.Exports.{Gives}
use Rattle.scq_replay.specs.declared.replaying.ScheduleFault.TheVariants.{NoMemory}
use Rattle.scq_replay.proofs.ScheduleRuns.{so_far_start, so_far_next, so_far_refused, so_far_end}
use Rattle.scq_replay.proofs.ordering.with_lines.Goals as goal

pub lines-init : goal.lines-init
lines-init c = so_far_start c.args.start.state.setup (lines_of c.args.lines.now) c.args.start refl c.requires.none c.requires.start

pub lines-preserved : goal.lines-preserved
lines-preserved c =
    so_far_next c.args.start.state.setup (lines_of c.args.lines.now) c.lines.schedule c.add_line.new.self c.lines.number c.in-Some.line.now
    (lines_of c.lines.rest.now) (lines_of c.in-Some.more.now) c.in-Some.ensures.line c.lines.invariant c.in_ok-add_line.ensures.few
    c.in_ok-add_line.ensures.added c.add_line.ensures.setup

pub returns-in_err-add_line-clause-refused : goal.returns-in_err-add_line-clause-refused
returns-in_err-add_line-clause-refused c text has =
    let fault = c.in_err-add_line.field-0.0 in
    handed_on c.from_residual.result fault (λ fault. (fault ≡ NoMemory) ⊎ Gives text (Err fault)) c.from_residual.ensures.1
    (elim c.in_err-add_line.ensures.refused [
      | inl want ↦ inl want
      | inr refused ↦
          inr
          (so_far_refused text (lines_of c.args.lines.now) c.args.start.state.setup c.lines.schedule c.lines.number c.in-Some.line.now
          (lines_of c.lines.rest.now) (lines_of c.in-Some.more.now) fault has c.in-Some.ensures.line c.lines.invariant refused)
    ])

pub returns-clause-schedule : goal.returns-clause-schedule
returns-clause-schedule c text has =
    so_far_end text (lines_of c.args.lines.now) c.args.start.state.setup c.lines.schedule c.lines.number (lines_of c.lines.rest.now) has
    (ap lines_of c.in_default.ensures.line) c.lines.invariant
