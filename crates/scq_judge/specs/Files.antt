-- The contents of files, as far as they are visible
use Rattle.std.specs.Prelude.{◌≡◌, ℕ, ◌-◌, ◌^◌, ◌<◌, ◌≤◌, List, Option, Some, length, slice_get}
use Rattle.std.specs.Prelude.{IsSomeAnd, All}

-- each of these sources has the content left that stands at its position
pub record HaveContents {S : Type 0} (left : S
    → Option (List ℕ)) (sources : List S) (contents : List (List ℕ)) : Type 0 where
  pub many : length contents ≡ length sources
  pub each : (i : ℕ) (source : S) → slice_get sources i ≡ Some source
      → left source ≡ slice_get contents i

-- a file of this number is there, from 1 to their count
pub record IsFile (count file : ℕ) : Type 0 where
  pub first : 0 < file
  pub last : file ≤ count

-- the most bytes of a file
abbrev pub most_bytes : ℕ
most_bytes = 2 ^ 31 - 2

-- no file has more
abbrev pub NoneIsLarge : List (List ℕ) → Type 0
NoneIsLarge contents = All (λ content. length content ≤ most_bytes) contents

-- the file of this number has more
pub record IsLarge (contents : List (List ℕ)) (file : ℕ) : Type 0 where
  pub is_file : IsFile (length contents) file
  pub large : IsSomeAnd (slice_get contents (file - 1)) (λ content. most_bytes < length content)
