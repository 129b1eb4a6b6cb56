-- The line's turn is the one that the state took, or the one that isn't enabled.
use Rattle.std.proofs.Common.{◌≡◌, ℕ, ◌++◌, ◌⊎◌, inl, inr, Some, None, sym, ◌∙◌, ap, subst}
use Rattle.scq_core.specs.declared.step.Step.{Step}
use Rattle.scq_core.specs.Exports.{machine_of, step_of}
use Rattle.scq_hist.proofs.HandedOn.{handed_on}
use Rattle.scq_replay.specs.Exports.{step_line, LineIsRefused, bad_line, not_enabled}
use Rattle.scq_replay.specs.declared.replaying.ScheduleFault.TheVariants.{NoMemory}
use Rattle.scq_replay.proofs.replaying.print_step.Goals as goal

pub returns-in_err-seat-clause-refused : goal.returns-in_err-seat-clause-refused
returns-in_err-seat-clause-refused c =
    let setup = c.args.setup.now in
    let m = machine_of c.args.state.now in
    handed_on c.from_residual.result c.in_err-seat.field-0.0 (λ fault. (fault ≡ NoMemory) ⊎ LineIsRefused setup c.args.number c.args.line.now m fault)
    c.from_residual.ensures.1
    (elim c.in_err-seat.ensures.refused [
      | inl want ↦ inl want
      | inr bad ↦ inr (subst (LineIsRefused setup c.args.number c.args.line.now m) (sym bad.0) (bad_line bad.1))
    ])

pub returns-in_err-make_step-clause-refused : goal.returns-in_err-make_step-clause-refused
returns-in_err-make_step-clause-refused c =
    let setup = c.args.setup.now in
    let m = machine_of c.args.state.now in
    let turn : ℕ × Step = (c.in_ok-seat.seat, c.in_ok-seat.step) in
    handed_on c.from_residual-in_err-make_step.result c.in_err-make_step.field-0.0
    (λ fault. (fault ≡ NoMemory) ⊎ LineIsRefused setup c.args.number c.args.line.now m fault) c.from_residual-in_err-make_step.ensures.1
    (elim c.in_err-make_step.ensures.refused [
      | inl want ↦ inl want
      | inr bad ↦
          inr
          (subst (LineIsRefused setup c.args.number c.args.line.now m) (sym bad.0)
          (not_enabled turn c.in_ok-seat.ensures.says (subst (λ s. step_of s m turn.0 turn.1 ≡ None) c.requires.setup bad.1)))
    ])

pub returns-clause-made : goal.returns-clause-made
returns-clause-made c =
    let turn : ℕ × Step = (c.in_ok-seat.seat, c.in_ok-seat.step) in
    let setup = c.args.setup.now in
    let next = machine_of c.make_step.new.state in
    let old = c.args.printed.now.items in
    record {
      turn = turn;
      says = c.in_ok-seat.ensures.says;
      leads = subst (λ s. step_of s (machine_of c.args.state.now) turn.0 turn.1 ≡ Some next) c.requires.setup c.in_ok-make_step.ensures.leads;
      prints =
          c.in_ok-add_step.ensures
          ∙ ap (λ s. old ++ step_line s c.args.number turn.0 turn.1 c.call_ring-ring.result next) (c.make_step.ensures.setup ∙ c.requires.setup)
          ∙ ap (λ ring. old ++ step_line setup c.args.number turn.0 turn.1 ring next) c.call_ring-ring.ensures.ring;
    }
