-- For callers: the stands of a new crew are all of it, in order, so that it can be closed with them.
use Rattle.std.proofs.Common.{◌≡◌, ◌∙◌, refl, arith, ℕ, zero, suc, ◌+◌, List, [], ◌∷◌, ◌++◌, length, All}
use Rattle.std.proofs.lemmas.List.{length-append}
use Rattle.std.proofs.lemmas.List.Elements.{All-nil, All-push}
use Rattle.atomic_table.specs.Seated.{TableId}
use Rattle.scq_park.specs.Exports.{Post, first_post, first_posts, AreInWorkerOrder, AreAll}

firsts_length : (crew : List TableId) (n : ℕ) → length (first_posts crew n) ≡ n
firsts_length crew zero = refl
firsts_length crew (suc n) = length-append (first_posts crew n) (first_post crew n ∷ []) ∙ omega (arith, firsts_length crew n)

-- the next stand behind others
in_order_more : (w : ℕ) (ps : List Post) (p : Post) → AreInWorkerOrder w ps → p.worker ≡ w + length ps → AreInWorkerOrder w (ps ++ p ∷ [])
in_order_more w [] p are is = (is ∙ omega arith, tt)
in_order_more w (q ∷ ps) p are is = (are.0, in_order_more (suc w) ps p are.1 (is ∙ omega arith))

firsts_order : (crew : List TableId) (n : ℕ) → AreInWorkerOrder 0 (first_posts crew n)
firsts_order crew zero = tt
firsts_order crew (suc n) =
    in_order_more 0 (first_posts crew n) (first_post crew n) (firsts_order crew n) (omega (arith, firsts_length crew n))

firsts_own : (crew : List TableId) (n : ℕ) → All (λ (p : Post). p.crew ≡ crew) (first_posts crew n)
firsts_own crew zero = All-nil (λ (p : Post). p.crew ≡ crew)
firsts_own crew (suc n) = All-push (λ (p : Post). p.crew ≡ crew) (first_posts crew n) (first_post crew n) (firsts_own crew n) refl

pub firsts_all : (crew : List TableId) (n : ℕ) → n ≡ length crew → AreAll crew (first_posts crew n)
firsts_all crew n many = record { own = firsts_own crew n; order = firsts_order crew n; many = firsts_length crew n ∙ many }
