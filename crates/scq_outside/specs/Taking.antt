-- What a call took of a source.
use Rattle.std.specs.Prelude.{◌≡◌, ℕ, ◌+◌, ◌≤◌, ◌++◌, List, [], Option, IfSome, length}
use Rattle.std.specs.Option.{option_map}
use Rattle.scq_outside.specs.declared.read_all_fault.ReadAllFault.{ReadAllFault}
use Rattle.scq_outside.specs.declared.read_all_fault.ReadAllFault.TheVariants.{ReadFault, TooLarge}
use Rattle.scq_outside.specs.declared.read_all_fault.ReadAllFault.TheVariants.{NoMemory}

-- these bytes were taken from the front of what was left, where that is visible
abbrev pub Took : List ℕ → Option (List ℕ) → Option (List ℕ) → Type 0
Took bytes old new = old ≡ option_map (λ rest. bytes ++ rest) new

-- these bytes are all that was left, at most so many, and nothing is left behind them
pub record TookAll (most : ℕ) (old new : Option (List ℕ)) (bytes : List ℕ) : Type 0 where
  pub took : Took bytes old new
  pub end : IfSome new (λ left. left ≡ [])
  pub fits : length bytes ≤ most

-- so many bytes were taken where reading a whole source of at most `most` bytes ended with this
-- fault
abbrev pub TookBy : ℕ → ReadAllFault → ℕ → Type 0
TookBy most ReadFault count = count ≤ most
TookBy most (TooLarge bytes) count = (count ≡ bytes) × (bytes ≡ most + 1)
TookBy most NoMemory count = count ≤ most + 1

-- what was taken before a fault, which nobody keeps
pub record TookUntil (most : ℕ) (old new : Option (List ℕ)) (fault : ReadAllFault) : Type 0 where
  pub bytes : List ℕ
  pub took : Took bytes old new
  pub count : TookBy most fault (length bytes)
