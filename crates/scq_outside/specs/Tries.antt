-- How the tries of a device ended.
use Rattle.std.specs.Prelude.{◌≡◌, ◌⊎◌, ◌≤◌, ℕ, Option, Result, IsErr, IsErrAnd}
use Rattle.std.specs.IoError.{error_kind}
use Rattle.std.specs.declared.io.Error.{Error}
use Rattle.std.specs.declared.io.ErrorKind.TheVariants.{Interrupted}
use Rattle.scq_outside.specs.Causes.{cause_after}
use Rattle.scq_outside.specs.Counts.{Rose, last_count}
use Rattle.scq_outside.specs.declared.cause.Cause.{Cause}

-- a device, how many tries to read or write it a signal didn't interrupt, and how many it did, and
-- what is known of the last one that failed of the former
pub record Tries (D : Type 0) : Type 0 where
  pub device : D
  pub settled : ℕ
  pub interrupted : ℕ
  pub cause : Option Cause

-- a signal interrupted a try that ended so
abbrev pub WasInterrupted : Result ℕ Error → Type 0
WasInterrupted result = IsErrAnd result (λ error. error_kind error ≡ Interrupted)

module _ {D : Type 0} where
  -- one try was made, which ended so
  pub record CountsTry (result : Result ℕ Error) (old new : Tries D) : Type 0 where
    pub again : WasInterrupted result
        → Rose old.interrupted new.interrupted × (new.settled ≡ old.settled)
        × (new.cause ≡ old.cause)
    pub once : (WasInterrupted result → ⊥)
        → Rose old.settled new.settled × (new.interrupted ≡ old.interrupted)
        × (new.cause ≡ cause_after result old.cause)

  -- of the tries of one call exactly one was not interrupted, and its answer is this; or it was
  -- given up where all were, until their count stood still
  abbrev pub SettlesOnce : Result ℕ Error → Tries D → Tries D → Type 0
  SettlesOnce result old new =
      Rose old.settled new.settled
      ⊎ (IsErr result × (new.settled ≡ old.settled) × (last_count ≤ new.interrupted))
