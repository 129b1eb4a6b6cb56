-- A text gives what its steps give from the start of its setup.
use Rattle.std.proofs.Common.{◌≡◌, ℕ, List, ◌⊎◌, inl, inr, Result, Ok, Err, sym, ◌∙◌, ap, subst}
use Rattle.std.specs.Prelude.{IfOk, IfErr}
use Rattle.scq_word.specs.declared.setup.Setup.{Setup}
use Rattle.scq_core.specs.Machine.{Machine}
use Rattle.scq_core.specs.Exports.{start_of, machine_of}
use Rattle.scq_hist.proofs.HandedOn.{handed_on}
use Rattle.scq_lines.specs.Exports.{lines_of}
use Rattle.scq_replay.specs.declared.replaying.ScheduleFault.{ScheduleFault}
use Rattle.scq_replay.specs.declared.replaying.ScheduleFault.TheVariants.{NoMemory}
use Rattle.scq_replay.specs.Exports.{steps_from, schedule_start, HasSetup, Gives, steps_of}
use Rattle.scq_replay.proofs.StepsRun.{refused_never}
use Rattle.scq_replay.proofs.replaying.schedule_text.Goals as goal

module _ (lines more : List (List ℕ)) (c : Setup) (m : Machine) (setup : HasSetup lines c more) (start : m ≡ schedule_start c) where
  gives : (outcome : Result (List ℕ) ScheduleFault) → steps_from c m 1 more ≡ outcome → Gives lines outcome
  gives outcome e = subst (Gives lines) (sym (ap (λ s. steps_from c s 1 more) start) ∙ e) (steps_of c more setup)

  gives_text : (r : Result (List ℕ) ScheduleFault) → IfOk r (λ printed. steps_from c m 1 more ≡ Ok printed) → IfOk r (λ printed. Gives lines (Ok printed))
  gives_text (Ok printed) e = gives (Ok printed) e
  gives_text (Err fault) e = e

  gives_fault : (r : Result (List ℕ) ScheduleFault) → IfErr r (λ fault. (fault ≡ NoMemory) ⊎ (steps_from c m 1 more ≡ Err fault))
      → IfErr r (λ fault. (fault ≡ NoMemory) ⊎ Gives lines (Err fault))
  gives_fault (Ok printed) e = e
  gives_fault (Err fault) (inl want) = inl want
  gives_fault (Err fault) (inr e) = inr (gives (Err fault) e)

pub returns-clause-printed : goal.returns-clause-printed
returns-clause-printed c =
    let start = c.in_ok-state.ensures.machine ∙ ap (start_of c.in_ok-setup.setup) c.in_ok-no_contents.ensures.none in
    gives_text (lines_of c.args.text.now) (lines_of c.in_ok-setup.steps.now) c.in_ok-setup.setup (machine_of c.in_ok-state.state) c.in_ok-setup.ensures.setup
    start c.steps_text.result c.steps_text.ensures.printed

pub returns-clause-refused : goal.returns-clause-refused
returns-clause-refused c =
    let start = c.in_ok-state.ensures.machine ∙ ap (start_of c.in_ok-setup.setup) c.in_ok-no_contents.ensures.none in
    gives_fault (lines_of c.args.text.now) (lines_of c.in_ok-setup.steps.now) c.in_ok-setup.setup (machine_of c.in_ok-state.state) c.in_ok-setup.ensures.setup
    start c.steps_text.result c.steps_text.ensures.refused

pub returns-in_err-setup-clause-of_line : goal.returns-in_err-setup-clause-of_line
returns-in_err-setup-clause-of_line c seat is =
    let lines = lines_of c.args.text.now in
    refused_never lines c.from_residual.result seat
    (handed_on c.from_residual.result c.in_err-setup.field-0.0 (λ fault. (fault ≡ NoMemory) ⊎ Gives lines (Err fault)) c.from_residual.ensures.1
    (inr c.in_err-setup.ensures.refused)) is

pub returns-clause-of_line : goal.returns-clause-of_line
returns-clause-of_line c seat is = refused_never (lines_of c.args.text.now) c.steps_text.result seat (returns-clause-refused c) is
