-- What a pass counts of few calls.
use Rattle.std.proofs.Common.{◌≡◌, ◌∙◌, refl, ap, arith, zero, suc, ℕ, ◌-◌, ◌^◌, ◌<◌, ◌≤◌, List, [], ◌∷◌, map}
use Rattle.std.specs.Prelude.{min}
use Rattle.std.specs.List.{All}
use Rattle.scq_queue.specs.Exports.{counts_of, PassStanding, lists_of}
use Rattle.scq_queue.specs.declared.counts.Counts.{Counts}
use Rattle.scq_passes.specs.Exports.{lengths_of, IsBounded}

-- counts of few calls are the lengths of the lists
few-counted : (n most : ℕ) → most < 2 ^ 64 → n ≤ most → min n (2 ^ 64 - 1) ≡ n
few-counted n most small few = omega arith

pub counts-exact : {B : Type 0} (most : ℕ) → most < 2 ^ 64 → (passes : List (PassStanding B)) → All (IsBounded most) passes
    → map (λ (p : PassStanding B). counts_of (lists_of p)) passes ≡ map lengths_of passes
counts-exact most small [] few = refl
counts-exact {B} most small (p ∷ ps) few =
    let b = few zero p (omega arith) in
    let here : counts_of (lists_of p) ≡ lengths_of p =
    λ i. record { sent = few-counted _ most small b.sends i; taken = few-counted _ most small b.takes i; full = few-counted _ most small b.fulls i } in
    let rest = counts-exact most small ps (λ k q less. few (suc k) q (omega arith)) in
    ap (λ (c : Counts). c ∷ map (λ (q : PassStanding B). counts_of (lists_of q)) ps) here ∙ ap (λ (l : List Counts). lengths_of p ∷ l) rest
