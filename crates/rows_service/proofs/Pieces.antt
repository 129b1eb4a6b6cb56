-- Pieces of one size, as rows cut what is read and written.
use Rattle.std.proofs.Common.{◌≡◌, ◌∙◌, refl, ap, suc, zero, ℕ, ◌<◌, true}
use Rattle.std.specs.Prelude.{replicate, ◌&&◌}
use Rattle.std.proofs.lemmas.Bool.{lt-ltb}
use Rattle.scq_outside.specs.Exports.{are_pieces}

pub pieces_replicate : (n x : ℕ) → 0 < x → are_pieces (replicate n x) ≡ true
pieces_replicate zero x some = refl
pieces_replicate (suc n) x some = ap (λ b. b && are_pieces (replicate n x)) (lt-ltb 0 x some) ∙ pieces_replicate n x some
