-- Bytes cut into runs at separators.
use Rattle.std.specs.Prelude.{ℕ, Bool, true, false, ◌==◌, ◌||◌, List, [], ◌∷◌, filter}
use Rattle.std.specs.List.{slice_split}

-- a byte that ends a word: a space or a tab
abbrev pub is_blank : ℕ → Bool
is_blank byte = byte == 32 || byte == 9

-- a byte that ends a token: a space alone
abbrev pub is_space : ℕ → Bool
is_space byte = byte == 32

-- whether there is a byte
abbrev pub has_bytes : List ℕ → Bool
has_bytes [] = false
has_bytes (byte ∷ bytes) = true

-- the maximal runs of bytes that end nothing: what stands between the ends, where that is not empty
abbrev pub runs : (ℕ → Bool) → List ℕ → List (List ℕ)
runs ends bytes = filter has_bytes (slice_split ends bytes)
