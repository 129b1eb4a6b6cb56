-- No event is the first that breaks an aspect exactly where the aspect holds.
use Rattle.std.proofs.Common.{◌≡◌, ℕ, ◌↔◌, Option, Some, None, is_some, refl}
use Rattle.scq_hist.specs.Exports.{IsFirstFailing}

pub none_iff_each : (Holds : ℕ → Type 0) (first number : Option ℕ) → is_some number ≡ is_some first → IsFirstFailing Holds first
    → (number ≡ None) ↔ ((e : ℕ) → Holds e)
none_iff_each Holds None None same each = (λ _. each, λ _. refl)
none_iff_each Holds (Some e) (Some number) same fails = (λ none. absurd cc, λ each. absurd (fails.0 (each e)))
none_iff_each Holds None (Some number) same each = absurd cc
none_iff_each Holds (Some e) None same fails = absurd cc
