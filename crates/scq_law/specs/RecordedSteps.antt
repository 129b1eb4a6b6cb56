-- For private calls: a recording shows what is recorded of a run.
use Rattle.std.specs.Prelude.{ℕ, List}
use Rattle.scq_word.specs.declared.setup.Setup.{Setup}
use Rattle.scq_core.specs.declared.step.Step.{Step}
use Rattle.scq_law.specs.declared.recording.Recording.{Recording}
use Rattle.scq_law.specs.Recording.{Shows}
use Rattle.scq_law.specs.Run.{IsRun, Recorded}

-- the steps are a run, and this shows what is recorded of it
pub record IsRecording (c : Setup) (opening : List (List ℕ)) (steps : List (ℕ × Step))
    (t : Recording) : Type 0 where
  pub recorded : Recorded
  pub run : IsRun c opening steps recorded
  pub shows : Shows c recorded t
