-- What a pass knows of the rings, when the numbers of one ring change.
use Rattle.std.proofs.Common.{◌≡◌, ◌≢◌, refl, sym, ◌∙◌, ap, subst, arith, ℕ, ◌+◌, ◌<◌, ◌≤◌, List, length, ⊎_elim, Option, Some, None}
use Rattle.std.proofs.lemmas.Bool.{cases_eq}
use Rattle.std.proofs.lemmas.List.{get_or-set_other, get_or-set_same}
use Rattle.scq_band.specs.declared.numbers.Numbers.{Numbers}
use Rattle.scq_band.specs.Exports.{known_of, changed, finishes, sees, passes, drew, empties}

-- of another ring they stay
pub known-other : (f : Numbers → Numbers) (r q : ℕ) (ns : List Numbers) → q ≢ r → known_of (changed f r ns) q ≡ known_of ns q
known-other f r q ns apart = get_or-set_other ns r q (f (known_of ns r)) (record { finished = 0; seen = 0; head = 0 }) apart

-- of the ring they are the changed ones
pub known-same : (f : Numbers → Numbers) (r : ℕ) (ns : List Numbers) → r < length ns → known_of (changed f r ns) r ≡ f (known_of ns r)
known-same f r ns within = get_or-set_same ns r (f (known_of ns r)) (record { finished = 0; seen = 0; head = 0 }) within

-- no number of another falls
pub record Raises (x y : Numbers) : Type 0 where
  pub finished : x.finished ≤ y.finished
  pub head : x.head ≤ y.head

pub raises-itself : (x : Numbers) → Raises x x
raises-itself x = record { finished = omega arith; head = omega arith }

pub raises-along : (x y z : Numbers) → Raises x y → Raises y z → Raises x z
raises-along x y z one more =
    let low = one.finished in
    let high = more.finished in
    let first = one.head in
    let last = more.head in
    record { finished = omega arith; head = omega arith }

-- where the change raises, none falls
pub known-raised : (f : Numbers → Numbers) (r q : ℕ) (ns : List Numbers) → ((x : Numbers) → Raises x (f x)) → r < length ns
    → Raises (known_of ns q) (known_of (changed f r ns) q)
known-raised f r q ns raises within =
    ⊎_elim (λ (same : q ≡ r).
    let P : ℕ → Type 0 = λ k. Raises (known_of ns k) (known_of (changed f r ns) k) in
    subst P (sym same) (subst (Raises (known_of ns r)) (sym (known-same f r ns within)) (raises (known_of ns r))))
    (λ (apart : q ≡ r → ⊥). subst (Raises (known_of ns q)) (sym (known-other f r q ns apart)) (raises-itself (known_of ns q)))
    (cases_eq q r)

pub finishes-raises : (place : ℕ) (x : Numbers) → Raises x (finishes place x)
finishes-raises place x = record { finished = omega arith; head = omega arith }

pub got-raises : (place : ℕ) (x : Numbers) → Raises x (sees place (passes (place + 1) x))
got-raises place x = record { finished = omega arith; head = omega arith }

pub empty-raises : (drawn : Option ℕ) (x : Numbers) → Raises x (empties (drew drawn x))
empty-raises None x = record { finished = omega arith; head = omega arith }
empty-raises (Some ticket) x = record { finished = omega arith; head = omega arith }

-- what a get and an empty ring leave of the finished place
pub empty-finished : (drawn : Option ℕ) (x : Numbers) → (empties (drew drawn x)).finished ≡ x.finished
empty-finished None x = refl
empty-finished (Some ticket) x = refl

-- an empty ring's head is past it
pub empty-passes : (drawn : Option ℕ) (x : Numbers) → x.finished < (empties (drew drawn x)).head
empty-passes None x = omega arith
empty-passes (Some ticket) x = omega arith

-- where the change leaves the finished place, it stays of every ring
pub finished-stays : (f : Numbers → Numbers) (r q : ℕ) (ns : List Numbers) → ((x : Numbers) → (f x).finished ≡ x.finished) → r < length ns
    → (known_of (changed f r ns) q).finished ≡ (known_of ns q).finished
finished-stays f r q ns stays within =
    ⊎_elim (λ (same : q ≡ r).
    let P : ℕ → Type 0 = λ k. (known_of (changed f r ns) k).finished ≡ (known_of ns k).finished in
    subst P (sym same) (ap (λ (x : Numbers). x.finished) (known-same f r ns within) ∙ stays (known_of ns r)))
    (λ (apart : q ≡ r → ⊥). ap (λ (x : Numbers). x.finished) (known-other f r q ns apart))
    (cases_eq q r)
