-- What a schedule gives: the printed lines of its steps, or the first line with a fault
use Rattle.std.specs.Prelude.{◌≡◌, ℕ, ◌+◌, nat_le, if◌then◌else◌, List, [], ◌∷◌, ◌++◌, Option, Some}
use Rattle.std.specs.Prelude.{None, Result, Ok, Err, replicate}
use Rattle.scq_word.specs.declared.setup.Setup.{Setup}
use Rattle.scq_word.specs.Exports.{n_of}
use Rattle.scq_core.specs.declared.step.Step.{Step}
use Rattle.scq_core.specs.Machine.{Machine}
use Rattle.scq_core.specs.Exports.{step_of, start_of}
use Rattle.scq_replay.specs.declared.replaying.ScheduleFault.{ScheduleFault}
use Rattle.scq_replay.specs.declared.replaying.ScheduleFault.TheVariants.{BadLine, NotEnabled}
use Rattle.scq_replay.specs.Schedule.{IsSetupLine, turn_in}
use Rattle.scq_replay.specs.Printed.{call_ring, step_line}

-- a text before what comes of the rest
abbrev pub onto : List ℕ → Result (List ℕ) ScheduleFault → Result (List ℕ) ScheduleFault
onto text (Ok rest) = Ok (text ++ rest)
onto text (Err fault) = Err fault

-- what the step of this number, from 1, gives, whose line is one further down; `go_on` says what
-- the lines behind it give from the state that it leads to
abbrev pub step_gives : Setup → Machine → ℕ → ℕ × Step → Option Machine
    → (Machine → Result (List ℕ) ScheduleFault) → Result (List ℕ) ScheduleFault
step_gives c m number turn None go_on = Err (NotEnabled (number + 1))
step_gives c m number turn (Some next) go_on =
    onto (step_line c number turn.0 turn.1 (call_ring turn.1 (m.part turn.0).phase) next)
    (go_on next)

abbrev pub taken : Setup → Machine → ℕ → Option (ℕ × Step)
    → (Machine → Result (List ℕ) ScheduleFault) → Result (List ℕ) ScheduleFault
taken c m number None go_on = Err (BadLine (number + 1))
taken c m number (Some turn) go_on = step_gives c m number turn (step_of c m turn.0 turn.1) go_on

-- the turn that the line of a step says, of which there are at most 10,000
abbrev pub turn_of_line : Setup → ℕ → List ℕ → Option (ℕ × Step)
turn_of_line c number line = if nat_le number 10000 then turn_in c line else None

-- what lines of steps give from this state, of which the first has this number
abbrev pub steps_from : Setup → Machine → ℕ → List (List ℕ) → Result (List ℕ) ScheduleFault
steps_from c m number [] = Ok []
steps_from c m number (line ∷ more) =
    taken c m number (turn_of_line c number line) (λ next. steps_from c next (number + 1) more)

-- the start of a schedule: all opening contents are empty
abbrev pub schedule_start : Setup → Machine
schedule_start c = start_of c (replicate (n_of c.order) [])

-- the first line says a setup, and these lines say steps
pub record HasSetup (lines : List (List ℕ)) (c : Setup) (steps : List (List ℕ)) : Type 0 where
  pub first : List ℕ
  pub stands : lines ≡ first ∷ steps
  pub says : IsSetupLine first c

-- what the lines of a schedule give
pub data Gives (lines : List (List ℕ)) : Result (List ℕ) ScheduleFault → Type 0 where
  no_setup : ((c : Setup) (steps : List (List ℕ)) → ¬ HasSetup lines c steps)
      → Gives lines (Err (BadLine 1))
  steps_of : (c : Setup) (steps : List (List ℕ)) → HasSetup lines c steps
      → Gives lines (steps_from c (schedule_start c) 1 steps)
