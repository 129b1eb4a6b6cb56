-- The first steps of a run, and where a seat stands after them.
use Rattle.std.specs.Prelude.{◌≡◌, ℕ, List, [], ◌∷◌, ◌++◌}
use Rattle.scq_word.specs.declared.setup.Setup.{Setup}
use Rattle.scq_core.specs.declared.ended.Ended.{Ended}
use Rattle.scq_core.specs.declared.phase.Phase.TheVariants.{Idle}
use Rattle.scq_core.specs.declared.step.Step.{Step}
use Rattle.scq_hist.specs.declared.events.Event.{Event}
use Rattle.scq_law.specs.Run.{Recorded, IsRun}

-- the steps begin with these
pub record IsPrefix (short steps : List (ℕ × Step)) : Type 0 where
  pub more : List (ℕ × Step)
  pub is : steps ≡ short ++ more

-- and with each of these
abbrev pub AllPrefixes : List (List (ℕ × Step)) → List (ℕ × Step) → Type 0
AllPrefixes [] steps = Unit {0}
AllPrefixes (one ∷ others) steps = IsPrefix one steps × AllPrefixes others steps

-- the steps are a run, after which this seat is in the middle of no call and has this record
pub record IsRecordAfter (c : Setup) (opening : List (List ℕ)) (steps : List (ℕ × Step)) (seat : ℕ)
    (calls : List Ended) : Type 0 where
  pub recorded : Recorded
  pub is_run : IsRun c opening steps recorded
  pub idle : (recorded.state.part seat).phase ≡ Idle
  pub calls_are : (recorded.state.part seat).calls ≡ calls

-- the first steps of a run are one, whose history is the beginning of the whole's
pub record IsPrefixOfRun (c : Setup) (opening : List (List ℕ)) (short : List (ℕ × Step))
    (recorded : Recorded) : Type 0 where
  pub then_recorded : Recorded
  pub is_run : IsRun c opening short then_recorded
  pub later : List Event
  pub events : recorded.events ≡ then_recorded.events ++ later
