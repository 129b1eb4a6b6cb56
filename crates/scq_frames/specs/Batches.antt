-- Parts in one value, one behind the other, up to where no part's bytes come.
use Rattle.std.specs.Prelude.{◌≡◌, ℕ, zero, suc, ◌+◌, List, [], ◌∷◌, length, drop}
use Rattle.std.specs.List.{All, flat_map}
use Rattle.std.specs.Option.{option_map_or}
use Rattle.scq_frames.specs.Parts.{Part}
use Rattle.scq_frames.specs.Encoded.{message_bytes, IsEncodable, part_at}

-- the bytes of parts, one behind the other
abbrev pub batch_bytes : List Part → List ℕ
batch_bytes parts = flat_map message_bytes parts

-- what stands behind the bytes of a part that comes first
abbrev pub bytes_behind : Part → List ℕ → List ℕ
bytes_behind p bytes = drop (24 + length p.payload) bytes

-- at most so many parts, one behind the other: the part whose bytes come first, and those behind it
unfoldable pub parts_within : ℕ → List ℕ → List Part
parts_within zero bytes = []
parts_within (suc most) bytes =
    option_map_or (λ p. p ∷ parts_within most (bytes_behind p bytes)) (part_at bytes) []

-- all of them: a part has 24 bytes at least, so there are no more parts than bytes
unfoldable pub parts_at : List ℕ → List Part
parts_at bytes = parts_within (length bytes) bytes

-- the bytes are those of the parts in them and no others, and each of these parts is of the file
pub record AreParts (file : ℕ) (bytes : List ℕ) : Type 0 where
  pub whole : bytes ≡ batch_bytes (parts_at bytes)
  pub encodable : All IsEncodable (parts_at bytes)
  pub alike : All (λ p. p.file ≡ file) (parts_at bytes)
