-- The names of files that a run keeps.
use Rattle.std.specs.Prelude.{ℕ, List, [], ◌∷◌, map, string_bytes}
use Rattle.scq_service.specs.declared.naming.Names.{Names}
use Rattle.scq_service.specs.declared.naming.Names.TheVariants.{Nothing, One, These}

abbrev pub names_in : Names → List (List ℕ)
names_in Nothing = []
names_in (One name) = string_bytes name ∷ []
names_in (These names) = map string_bytes names.items
