-- The steps of a schedule so far: their lines are printed, and the rest gives what it gives from the state reached.
use Rattle.std.proofs.Common.{◌≡◌, ℕ, ◌+◌, List, [], ◌∷◌, ◌++◌, append_assoc, Option, Some, None, Result, Ok, Err, ◌⊎◌, inl, inr, refl, sym, ◌∙◌, ap}
use Rattle.std.specs.Prelude.{IfErr}
use Rattle.scq_word.specs.declared.setup.Setup.{Setup}
use Rattle.scq_core.specs.Machine.{Machine}
use Rattle.scq_core.specs.declared.step.Step.{Step}
use Rattle.scq_core.specs.Exports.{step_of}
use Rattle.scq_replay.specs.declared.replaying.ScheduleFault.{ScheduleFault}
use Rattle.scq_replay.specs.declared.replaying.ScheduleFault.TheVariants.{Unfinished, NoMemory}
use Rattle.scq_replay.specs.Exports.{onto, step_gives, taken, turn_of_line, steps_from, schedule_start, Gives, no_setup, steps_of, IsMade}
use Rattle.scq_replay.specs.Exports.{LineIsRefused, bad_line, not_enabled}

-- all the lines give what was printed, before what the rest gives
pub record LinesAreRun (c : Setup) (start : Machine) (lines : List (List ℕ)) (m : Machine) (number : ℕ) (rest : List (List ℕ)) (printed : List ℕ) : Type 0 where
  pub gives : steps_from c start 1 lines ≡ onto printed (steps_from c m number rest)

onto-onto : (a b : List ℕ) (r : Result (List ℕ) ScheduleFault) → onto a (onto b r) ≡ onto (a ++ b) r
onto-onto a b (Ok rest) = ap Ok (sym (append_assoc a b rest))
onto-onto a b (Err fault) = refl

onto-nil : (r : Result (List ℕ) ScheduleFault) → onto [] r ≡ r
onto-nil (Ok rest) = refl
onto-nil (Err fault) = refl

pub run_start : (c : Setup) (start : Machine) (lines : List (List ℕ)) (printed : List ℕ) → printed ≡ [] → LinesAreRun c start lines start 1 lines printed
run_start c start lines printed none = record { gives = sym (ap (λ p. onto p (steps_from c start 1 lines)) none ∙ onto-nil (steps_from c start 1 lines)) }

pub run_more : (c : Setup) (start : Machine) (lines : List (List ℕ)) (m next : Machine) (number : ℕ) (line : List ℕ) (rest more : List (List ℕ))
    (old new : List ℕ)
    → rest ≡ line ∷ more → LinesAreRun c start lines m number rest old → IsMade c number line m next old new → LinesAreRun c start lines next (number + 1) more new
run_more c start lines m next number line rest more old new cut run made =
    record {
      gives =
          run.gives ∙ ap (λ r. onto old (steps_from c m number r)) cut
          ∙ (rw (made.says, made.leads, made.prints) (onto-onto old _ (steps_from c next (number + 1) more)));
    }

pub run_refused : (c : Setup) (start : Machine) (lines : List (List ℕ)) (m : Machine) (number : ℕ) (line : List ℕ) (rest more : List (List ℕ)) (old : List ℕ)
    (fault : ScheduleFault) → rest ≡ line ∷ more → LinesAreRun c start lines m number rest old → LineIsRefused c number line m fault
    → steps_from c start 1 lines ≡ Err fault
run_refused c start lines m number line rest more old fault cut run (bad_line none) =
    run.gives ∙ ap (λ r. onto old (steps_from c m number r)) cut ∙ (rw none refl)
run_refused c start lines m number line rest more old fault cut run (not_enabled turn says none) =
    run.gives ∙ ap (λ r. onto old (steps_from c m number r)) cut ∙ (rw (says, none) refl)

-- no line is refused for a call that hasn't ended
of_rest : (text : List ℕ) (seat : ℕ) (r : Result (List ℕ) ScheduleFault) → onto text r ≡ Err (Unfinished seat) → r ≡ Err (Unfinished seat)
of_rest text seat (Ok rest) is = absurd (cc)
of_rest text seat (Err fault) is = is

module _ (c : Setup) (m : Machine) (number : ℕ) (seat : ℕ) (go_on : Machine → Result (List ℕ) ScheduleFault)
    (never : (next : Machine) → go_on next ≡ Err (Unfinished seat) → ⊥) where
  by_step : (turn : ℕ × Step) (next : Option Machine) → step_gives c m number turn next go_on ≡ Err (Unfinished seat) → ⊥
  by_step turn None stops = absurd (cc)
  by_step turn (Some next) goes = never next (of_rest _ seat (go_on next) goes)

  by_turn : (turn : Option (ℕ × Step)) → taken c m number turn go_on ≡ Err (Unfinished seat) → ⊥
  by_turn None bad = absurd (cc)
  by_turn (Some turn) good = by_step turn (step_of c m turn.0 turn.1) good

never_unfinished : (c : Setup) (m : Machine) (number : ℕ) (lines : List (List ℕ)) (seat : ℕ) → steps_from c m number lines ≡ Err (Unfinished seat) → ⊥
never_unfinished c m number [] seat is = absurd (cc)
never_unfinished c m number (line ∷ more) seat is =
    by_turn c m number seat (λ next. steps_from c next (number + 1) more) (λ next goes. never_unfinished c next (number + 1) more seat goes)
    (turn_of_line c number line) is

given_never : (lines : List (List ℕ)) (r : Result (List ℕ) ScheduleFault) (seat : ℕ) → Gives lines r → r ≡ Err (Unfinished seat) → ⊥
given_never lines r seat (no_setup none) is = absurd (cc)
given_never lines r seat (steps_of c steps has) is = never_unfinished c (schedule_start c) 1 steps seat is

pub refused_never : {T : Type 0} (lines : List (List ℕ)) (r : Result T ScheduleFault) (seat : ℕ)
    → IfErr r (λ fault. (fault ≡ NoMemory) ⊎ Gives lines (Err fault)) → r ≡ Err (Unfinished seat) → ⊥
refused_never lines (Ok x) seat refused is = absurd (cc)
refused_never lines (Err fault) seat (inl want) is = let same : fault ≡ Unfinished seat = cc in
    absurd (let both : NoMemory ≡ Unfinished seat = sym want ∙ same in cc)
refused_never lines (Err fault) seat (inr gives) is = given_never lines (Err fault) seat gives (let same : fault ≡ Unfinished seat = cc in ap Err same)
