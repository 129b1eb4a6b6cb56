-- The events that break an aspect, which is a fact of each event: the first of them, and how many
-- they are
use Rattle.std.specs.Prelude.{ℕ, ◌+◌, ◌<◌, ◌≤◌, Bool, true, false, Option, Some, None}
use Rattle.std.specs.Option.{option_or}
use Rattle.scq_hist.specs.Exports.{IsCount, IsFirstFailing}
use Rattle.scq_check.specs.declared.failures.Failures.{Failures}

-- the first event that breaks the aspect, and how many do
pub record AreFailures (Holds : ℕ → Type 0) (failures : Failures) : Type 0 where
  pub first : IsFirstFailing Holds failures.first
  pub count : IsCount (λ e. ¬ Holds e) failures.count

-- For private calls: the same of the events before position m
abbrev pub IsFirstBefore : (ℕ → Type 0) → ℕ → Option ℕ → Type 0
IsFirstBefore Holds m None = (e : ℕ) → e < m → Holds e
IsFirstBefore Holds m (Some e) = (e < m) × (¬ Holds e) × ((d : ℕ) → d < e → Holds d)

pub record AreFailuresBefore (Holds : ℕ → Type 0) (m : ℕ) (failures : Failures) : Type 0 where
  pub first : IsFirstBefore Holds m failures.first
  pub few : failures.count ≤ m
  pub count : IsCount (λ e. (e < m) × (¬ Holds e)) failures.count

-- with what is known of the event at position e
abbrev pub failures_with : Failures → ℕ → Bool → Failures
failures_with failures e true = failures
failures_with failures e false =
    record { first = option_or failures.first (Some e); count = failures.count + 1 }
