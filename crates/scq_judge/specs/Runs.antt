-- Each file that tells a run's number tells the same
use Rattle.std.specs.Prelude.{◌≡◌, ℕ, ◌<◌, List, Some, slice_get}
use Rattle.scq_judge.specs.declared.recorded.RunOf.{RunOf}

-- the files that tell which run they are of are of one run
abbrev pub AreOfOneRun : List RunOf → Type 0
AreOfOneRun runs = (i k : ℕ) (a b : RunOf) → slice_get runs i ≡ Some a → slice_get runs k ≡ Some b
    → a.number ≡ b.number

-- this file is of another run than the other one
pub record IsOfAnotherRun (runs : List RunOf) (run other : RunOf) : Type 0 where
  pub i : ℕ
  pub k : ℕ
  pub here : slice_get runs i ≡ Some run
  pub there : slice_get runs k ≡ Some other
  pub apart : ¬ (other.number ≡ run.number)

-- For private calls: those before position i are of this run
abbrev pub AreOfRun : List RunOf → ℕ → RunOf → Type 0
AreOfRun runs i first =
    (k : ℕ) (run : RunOf) → k < i → slice_get runs k ≡ Some run → first.number ≡ run.number
