use Rattle.std.proofs.Common.{◌≡◌, ◌∙◌, ◌-◌, ◌<◌, ◌≤◌, ap, sym, length, map, string_bytes, ℕ, List, Bor, Option, Some, None}
use Rattle.std.specs.Prelude.{slice_get, MatchOption}
use Rattle.std.specs.List.{HoldsAt}
use Rattle.std.specs.Option.{option_map}
use Rattle.std.proofs.lemmas.Option.{slice_get-map, slice_get_past}
use Rattle.scq_service.specs.Exports.{name_of}
use Rattle.scq_service.proofs.Writings.{same-line, written-none}
use Rattle.scq_service.proofs.naming.write_name.Goals as goal

-- nothing is there where none is got
none-there : {X : Type 0} (o : Option (Bor X)) (xs : List X) (i : ℕ) → o ≡ None → MatchOption o (length xs ≤ i) (λ x. (i < length xs) × HoldsAt (λ y. x.now ≡ y) xs i)
    → slice_get xs i ≡ None
none-there None xs i is past = slice_get_past xs i past
none-there (Some x) xs i is within = cc

pub returns-in-None : goal.returns-in-None
returns-in-None g c =
    let names = c.args.names.now in
    let none : slice_get (map string_bytes names) (c.args.file - 1) ≡ None =
    slice_get-map string_bytes names (c.args.file - 1)
    ∙ ap (λ (i : ℕ). option_map string_bytes (slice_get names i)) (sym c.saturating_sub.ensures)
    ∙ ap (option_map string_bytes) (none-there c.get.result names c.saturating_sub.result c.in-None.is c.get.ensures.lookup.3) in
    same-line (λ name. name_of name c.args.file) none written-none
