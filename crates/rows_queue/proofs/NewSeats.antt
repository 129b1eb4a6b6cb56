-- No buffer of the seats of a new band is lifted.
use Rattle.std.proofs.Common.{◌≡◌, ℕ, zero, suc, [], refl}
use Rattle.std.specs.Prelude.{All}
use Rattle.std.proofs.lemmas.List.Elements.{All-nil, All-push}
use Rattle.scq_band.specs.Exports.{Identity, first_standing, first_standings, lifted_of}
use Rattle.scq_band.specs.Standing.{Standing}

module _ {B : Type 0} where
  pub none_lifted : (band : Identity B) (k : ℕ) → All (λ (s : Standing B). lifted_of s.hand ≡ []) (first_standings band k)
  none_lifted band zero = All-nil (λ (s : Standing B). lifted_of s.hand ≡ [])
  none_lifted band (suc k) =
      All-push (λ (s : Standing B). lifted_of s.hand ≡ []) (first_standings band k) (first_standing band k) (none_lifted band k) refl
