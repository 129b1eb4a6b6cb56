-- What replaying steps gives: what is recorded of them, and where they stop being a run.
use Rattle.std.specs.Prelude.{◌≡◌, ℕ, ◌+◌, ◌<◌, List, length, take, None, IsSome, slice_index}
use Rattle.scq_word.specs.declared.setup.Setup.{Setup}
use Rattle.scq_core.specs.declared.step.Step.{Step}
use Rattle.scq_core.specs.Exports.{machine_of}
use Rattle.scq_law.specs.declared.replayed.Replayed.{Replayed}
use Rattle.scq_law.specs.Run.{Recorded, recorded_of, IsRun}

-- a list of so many counts: what it has at each position, and 0 past its end
pub record Counts (many : ℕ) (counts : List ℕ) (count : ℕ → ℕ) : Type 0 where
  pub size : length counts ≡ many
  pub each : (k : ℕ) → slice_index counts k ≡ count k

-- the steps are a run, and this is what is recorded of it
pub record ReplaysRun (c : Setup) (opening : List (List ℕ)) (steps : List (ℕ × Step))
    (replayed : Replayed) : Type 0 where
  pub recorded : Recorded
  pub run : IsRun c opening steps recorded
  pub setup : replayed.state.setup ≡ c
  pub state : machine_of replayed.state ≡ recorded.state
  pub events : replayed.events.items ≡ recorded.events
  pub resets : Counts c.rings replayed.resets.items recorded.resets
  pub fails : Counts c.rings replayed.fails.items recorded.fails

-- the steps before this one are a run, and this one is not enabled after them
pub record StopsAt (c : Setup) (opening : List (List ℕ)) (steps : List (ℕ × Step))
    (at : ℕ) : Type 0 where
  pub within : at < length steps
  pub before : IsSome (recorded_of c opening (take at steps))
  pub here : recorded_of c opening (take (at + 1) steps) ≡ None
