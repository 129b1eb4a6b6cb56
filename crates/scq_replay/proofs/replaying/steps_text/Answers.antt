use Rattle.std.proofs.Common.{◌≡◌, ◌⊎◌, inl, inr, Err, arith}
use Rattle.scq_core.specs.Exports.{machine_of}
use Rattle.scq_hist.proofs.HandedOn.{handed_on}
use Rattle.scq_lines.specs.Exports.{lines_of}
use Rattle.scq_replay.specs.declared.replaying.ScheduleFault.TheVariants.{NoMemory}
use Rattle.scq_replay.specs.Exports.{steps_from}
use Rattle.scq_replay.proofs.StepsRun.{run_more, run_refused}
use Rattle.scq_replay.proofs.replaying.steps_text.Goals as goal

pub lines-preserved : goal.lines-preserved
lines-preserved c = (
  c.print_step.ensures.setup,
  c.print_step.ensures.reachable,
  omega (arith, c.in_ok-print_step.ensures.few),
  run_more c.args.setup.now (machine_of c.args.start) (lines_of c.args.text.now) (machine_of c.lines.state) (machine_of c.print_step.new.state) c.lines.number
      c.in-Some.line.now (lines_of c.lines.rest.now) (lines_of c.in-Some.more.now) c.lines.printed.items c.print_step.new.printed.items c.in-Some.ensures.line
      c.lines.invariant.3 c.in_ok-print_step.ensures.made,
)

pub returns-in_err-print_step-clause-refused : goal.returns-in_err-print_step-clause-refused
returns-in_err-print_step-clause-refused c =
    let fault = c.in_err-print_step.field-0.0 in
    let lines = lines_of c.args.text.now in
    handed_on c.from_residual.result fault
    (λ fault. (fault ≡ NoMemory) ⊎ (steps_from c.args.setup.now (machine_of c.args.start) 1 lines ≡ Err fault)) c.from_residual.ensures.1
    (elim c.in_err-print_step.ensures.refused [
      | inl want ↦ inl want
      | inr refused ↦
          inr
          (run_refused c.args.setup.now (machine_of c.args.start) lines (machine_of c.lines.state) c.lines.number c.in-Some.line.now
          (lines_of c.lines.rest.now) (lines_of c.in-Some.more.now) c.lines.printed.items fault c.in-Some.ensures.line c.lines.invariant.3 refused)
    ])
