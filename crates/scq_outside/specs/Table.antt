-- Tables of files.
use Rattle.std.specs.Prelude.{ℕ, List, Option, None, if◌then◌else◌}
use Rattle.std.specs.Str.{bytes_eq}

-- a table of files: for each name that is there, its content
abbrev pub Table : Type 0
Table = List ℕ → Option (List ℕ)

-- the table without this name
abbrev pub without_name : List ℕ → Table → Table
without_name name table other = if bytes_eq name other then None else table other
