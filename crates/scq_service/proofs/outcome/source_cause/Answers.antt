use Rattle.std.proofs.Common.{◌≡◌, ◌∙◌, ◌<◌, ◌≤◌, ap, sym, length, ℕ, List, Bor, Option, Some, None}
use Rattle.std.specs.Prelude.{slice_get, MatchOption}
use Rattle.std.specs.List.{HoldsAt}
use Rattle.std.specs.Option.{option_and_then}
use Rattle.std.proofs.lemmas.Option.{slice_get_past}
use Rattle.scq_service.proofs.outcome.source_cause.Goals as goal

-- nothing is there where none is got
none-there : {X : Type 0} (o : Option (Bor X)) (xs : List X) (i : ℕ) → o ≡ None → MatchOption o (length xs ≤ i) (λ x. (i < length xs) × HoldsAt (λ y. x.now ≡ y) xs i)
    → slice_get xs i ≡ None
none-there None xs i is past = slice_get_past xs i past
none-there (Some x) xs i is within = cc

pub returns-in-None : goal.returns-in-None
returns-in-None g c =
    let sources = c.args.sources.now in
    sym (ap (λ (i : ℕ). option_and_then g.S.Source.cause (slice_get sources i)) (sym c.saturating_sub.ensures)
    ∙ ap (option_and_then g.S.Source.cause) (none-there c.get.result sources c.saturating_sub.result c.in-None.is c.get.ensures.lookup.3))
