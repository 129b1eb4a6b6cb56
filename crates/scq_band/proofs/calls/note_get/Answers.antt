use Rattle.std.proofs.Common.{◌≡◌, ◌+◌, ◌<◌, ◌≤◌, ℕ, length, sym, ◌∙◌, ap, subst, arith}
use Rattle.std.specs.Prelude.{slice_set, max}
use Rattle.std.proofs.Math.Nat.{max-eq_left, max-eq_right}
use Rattle.std.proofs.lemmas.List.{length-set}
use Rattle.scq_band.specs.declared.numbers.Numbers.{Numbers}
use Rattle.scq_band.specs.Exports.{known_of, sees, passes}
use Rattle.scq_band.proofs.Keeping.{known_read, known_here, changed_twice}
use Rattle.scq_band.proofs.calls.note_get.Goals as goal

-- what is known after a dequeue, where the place is higher than what was seen, and where it isn't
higher : (k : Numbers) (p : ℕ) → k.seen < p → k.head ≤ p → record k { seen = p; head = p + 1 } ≡ sees p (passes (p + 1) k)
higher k p seen head =
    let one : max k.seen p ≡ p = max-eq_right (omega (arith, seen)) in
    let other : max k.head (p + 1) ≡ p + 1 = max-eq_right (omega (arith, head)) in
    ap (λ n. record k { seen = n; head = p + 1 }) (sym one) ∙ ap (λ n. record k { seen = max k.seen p; head = n }) (sym other)

lower : (k : Numbers) (p : ℕ) → p ≤ k.seen → k.head ≤ p → record k { head = p + 1 } ≡ sees p (passes (p + 1) k)
lower k p seen head =
    let one : max k.seen p ≡ k.seen = max-eq_left seen in
    let other : max k.head (p + 1) ≡ p + 1 = max-eq_right (omega (arith, head)) in
    ap (λ n. record k { seen = n; head = p + 1 }) (sym one) ∙ ap (λ n. record k { seen = max k.seen p; head = n }) (sym other)

pub returns-then-place-known : goal.returns-then-place-known
returns-then-place-known c =
    let ns = c.args.numbers.now.items in
    let r = c.args.ring in
    let p = c.args.place in
    let k = known_of ns r in
    let x = c.index_mut.result.now in
    let is : x ≡ k = known_read ns r x c.requires.low c.index_mut.ensures.value in
    let mid : Numbers = record x { seen = p } in
    let y = c.index_mut-then-place-known.result.now in
    let there : r < length (slice_set ns r mid) = let same = length-set ns r mid in let low = c.requires.low in omega (arith, same, low) in
    let is_mid : y ≡ mid = known_read (slice_set ns r mid) r y there c.index_mut-then-place-known.ensures.value ∙ known_here ns r mid c.requires.low in
    let seen : k.seen < p = subst (λ (z : Numbers). z.seen < p) c.requires.known c.if-place-known.true in
    let head : k.head ≤ p = subst (λ (z : Numbers). z.head ≤ p) c.requires.known c.requires.above in
    changed_twice (λ _. record y { head = p + 1 }) (λ _. mid) r ns
    ∙ ap (slice_set ns r) (ap (λ (z : Numbers). record z { head = p + 1 }) is_mid ∙ ap (λ (z : Numbers). record z { seen = p; head = p + 1 }) is ∙ higher k p seen head)

pub returns : goal.returns
returns c =
    let ns = c.args.numbers.now.items in
    let r = c.args.ring in
    let p = c.args.place in
    let k = known_of ns r in
    let x = c.index_mut-2.result.now in
    let is : x ≡ k = known_read ns r x c.requires.low c.index_mut-2.ensures.value in
    let seen : p ≤ k.seen = subst (λ (z : Numbers). p ≤ z.seen) c.requires.known c.if-place-known.false in
    let head : k.head ≤ p = subst (λ (z : Numbers). z.head ≤ p) c.requires.known c.requires.above in
    ap (slice_set ns r) (ap (λ (z : Numbers). record z { head = p + 1 }) is ∙ lower k p seen head)
