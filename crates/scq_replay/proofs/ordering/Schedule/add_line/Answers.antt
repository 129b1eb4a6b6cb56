-- The line's turn is the one that the state took, or the one that isn't enabled.
use Rattle.std.proofs.Common.{◌≡◌, ℕ, ◌<◌, ◌⊎◌, inl, inr, Some, None, sym, subst, rules}
use Rattle.scq_word.specs.declared.setup.Setup.{Setup}
use Rattle.scq_core.specs.Exports.{machine_of}
use Rattle.scq_core.specs.declared.step.Step.{Step}
use Rattle.scq_hist.proofs.HandedOn.{handed_on}
use Rattle.scq_replay.specs.Exports.{turn_of_line, LineIsRefused, bad_line, not_enabled}
use Rattle.scq_replay.specs.declared.replaying.ScheduleFault.TheVariants.{NoMemory}
use Rattle.scq_replay.proofs.ordering.Schedule.add_line.Goals as goal

pub returns-in_err-seat-clause-refused : goal.returns-in_err-seat-clause-refused
returns-in_err-seat-clause-refused c =
    let setup = c.args.self.now.state.setup in
    let m = machine_of c.args.self.now.state in
    handed_on c.from_residual.result c.in_err-seat.field-0.0 (λ fault. (fault ≡ NoMemory) ⊎ LineIsRefused setup c.args.number c.args.line.now m fault)
    c.from_residual.ensures.1
    (elim c.in_err-seat.ensures.refused [
      | inl want ↦ inl want
      | inr bad ↦
          let none = subst (λ (s : Setup). turn_of_line s c.args.number c.args.line.now ≡ None) c.setup.ensures bad.1 in
          inr (subst (LineIsRefused setup c.args.number c.args.line.now m) (sym bad.0) (bad_line none))
    ])

pub returns-in_err-make_step-clause-refused : goal.returns-in_err-make_step-clause-refused
returns-in_err-make_step-clause-refused c =
    let setup = c.args.self.now.state.setup in
    let m = machine_of c.args.self.now.state in
    let turn : ℕ × Step = (c.in_ok-seat.seat, c.in_ok-seat.step) in
    let says = subst (λ (s : Setup). turn_of_line s c.args.number c.args.line.now ≡ Some turn) c.setup.ensures c.in_ok-seat.ensures.says in
    handed_on c.from_residual-in_err-make_step.result c.in_err-make_step.field-0.0
    (λ fault. (fault ≡ NoMemory) ⊎ LineIsRefused setup c.args.number c.args.line.now m fault) c.from_residual-in_err-make_step.ensures.1
    (elim c.in_err-make_step.ensures.refused [
      | inl want ↦ inl want
      | inr bad ↦ inr (subst (LineIsRefused setup c.args.number c.args.line.now m) (sym bad.0) (not_enabled turn says bad.1))
    ])

pub returns-clause-added : goal.returns-clause-added
returns-clause-added c =
    let turn : ℕ × Step = (c.in_ok-seat.seat, c.in_ok-seat.step) in
    record {
      turn = turn;
      says = subst (λ (s : Setup). turn_of_line s c.args.number c.args.line.now ≡ Some turn) c.setup.ensures c.in_ok-seat.ensures.says;
      seat = subst (λ (s : Setup). turn.0 < s.seats) c.setup.ensures c.in_ok-seat.ensures.seat;
      leads = c.in_ok-make_step.ensures.leads;
      adds = search rules;
    }
