-- What files hold, where their table is visible.
use Rattle.std.specs.Prelude.{◌≡◌, ◌⊎◌, ℕ, ◌-◌, List, [], ◌∷◌, take, slice_get, Option, Some, None}
use Rattle.std.specs.Prelude.{IsTrue, IfSome, IsSomeAnd, option_and_then}
use Rattle.std.specs.List.{list_any}
use Rattle.std.specs.Str.{bytes_eq}
use Rattle.std.specs.Option.{option_map}
use Rattle.scq_outside.specs.Exports.{without_name}
use Rattle.scq_outside.specs.Table.{Table}

-- the contents that a table gives for these names, in their order, where each is there; a name that
-- was given is there no more
abbrev pub contents_of : Table → List (List ℕ) → Option (List (List ℕ))
contents_of table [] = Some []
contents_of table (name ∷ names) =
    option_and_then (λ content.
    option_map (λ more. content ∷ more) (contents_of (without_name name table) names))
    (table name)

-- where the table is visible, each name is there and the contents meet P
abbrev pub IfVisible : Option Table → List (List ℕ) → (List (List ℕ) → Type 0) → Type 0
IfVisible table names P = IfSome table (λ files. IsSomeAnd (contents_of files names) P)

-- the table without these names
abbrev pub without_names : List (List ℕ) → Table → Table
without_names [] table = table
without_names (name ∷ names) table = without_names names (without_name name table)

-- the name of this file isn't in the table, or an earlier file has the same name
abbrev pub IsMissing : Table → List (List ℕ) → ℕ → Type 0
IsMissing table names file =
    IsSomeAnd (slice_get names (file - 1)) (λ name.
    (table name ≡ None) ⊎ IsTrue (list_any (bytes_eq name) (take (file - 1) names)))
