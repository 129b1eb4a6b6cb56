-- Each step of a parker, each cut and each join of its passes keeps its rule. A step changes one pass, so each total changes by what
-- that pass does.
use Rattle.std.proofs.Common.{◌≡◌, ℕ, zero, suc, ◌+◌, ◌<◌, ◌≤◌, Bool, true, false, List, [], ◌∷◌, ◌++◌, set, refl, sym, ◌∙◌, ap, subst, arith}
use mathlib.Core.Option.{some, some-injective, some-ne-none}
use lib.ListN.{get_elem?}
use Rattle.crossbeam_utils.specs.Register.{TurnsAt, Turns, Forks, Merges}
use Rattle.scq_park.specs.Exports.{Deeds, deeds, once_woken, once_rested, one_part_less, added, total_deeds, worth, IsIdleWithoutPart}
use Rattle.scq_park.specs.Exports.{AreIdleWithoutPart, IsCovered}

-- a total after a change of one pass, and with one pass more
total-set : (f : Deeds → ℕ) (vs : List Deeds) (i : ℕ) (v w : Deeds) → get_elem? vs i ≡ some v → total_deeds f (set vs i w) + f v ≡ total_deeds f vs + f w
total-set f [] i v w at = absurd (some-ne-none v (sym at))
total-set f (x ∷ xs) zero v w at = let same = ap f (some-injective x v at) in omega arith
total-set f (x ∷ xs) (suc i) v w at = let rest = total-set f xs i v w at in omega arith

total-snoc : (f : Deeds → ℕ) (vs : List Deeds) (w : Deeds) → total_deeds f (vs ++ w ∷ []) ≡ total_deeds f vs + f w
total-snoc f [] w = omega arith
total-snoc f (x ∷ xs) w = let rest = total-snoc f xs w in omega arith

-- the same of what a pass without a part did
idle-set : (vs : List Deeds) (i : ℕ) (w : Deeds) → AreIdleWithoutPart vs → IsIdleWithoutPart w → AreIdleWithoutPart (set vs i w)
idle-set [] i w all one = tt
idle-set (x ∷ xs) zero w all one = (one, all.1)
idle-set (x ∷ xs) (suc i) w all one = (all.0, idle-set xs i w all.1 one)

idle-snoc : (vs : List Deeds) (w : Deeds) → AreIdleWithoutPart vs → IsIdleWithoutPart w → AreIdleWithoutPart (vs ++ w ∷ [])
idle-snoc [] w all one = (one, tt)
idle-snoc (x ∷ xs) w all one = (all.0, idle-snoc xs w all.1 one)

idle_at : (vs : List Deeds) (i : ℕ) (v : Deeds) → get_elem? vs i ≡ some v → AreIdleWithoutPart vs → IsIdleWithoutPart v
idle_at [] i v at all = absurd (some-ne-none v (sym at))
idle_at (x ∷ xs) zero v at all = subst (λ (u : Deeds). IsIdleWithoutPart u) (some-injective x v at) all.0
idle_at (x ∷ xs) (suc i) v at all = idle_at xs i v at all.1

-- where no pass has a part, none did anything; and where one has all parts, no other did
none_did : (vs : List Deeds) → AreIdleWithoutPart vs → total_deeds (λ v. v.parts) vs ≡ 0 → (total_deeds (λ v. v.woke) vs ≡ 0) × (total_deeds (λ v. v.rested) vs ≡ 0)
none_did [] all nil = (refl, refl)
none_did (x ∷ xs) all nil =
    let rest = none_did xs all.1 (omega (arith, nil)) in
    let one = all.0 (omega (arith, nil)) in
    (let w = rest.0 in let o = one.0 in omega arith, let r = rest.1 in let o = one.1 in omega arith)

one_did : (vs : List Deeds) (i : ℕ) (v : Deeds) → get_elem? vs i ≡ some v → AreIdleWithoutPart vs → total_deeds (λ v. v.parts) vs ≡ v.parts
    → (total_deeds (λ v. v.woke) vs ≡ v.woke) × (total_deeds (λ v. v.rested) vs ≡ v.rested)
one_did [] i v at all whole = absurd (some-ne-none v (sym at))
one_did (x ∷ xs) zero v at all whole =
    let same : x ≡ v = some-injective x v at in
    let parts = ap (λ (u : Deeds). u.parts) same in
    let woke = ap (λ (u : Deeds). u.woke) same in
    let rested = ap (λ (u : Deeds). u.rested) same in
    let rest = none_did xs all.1 (omega (arith, whole, parts)) in
    (let w = rest.0 in omega (arith, woke), let r = rest.1 in omega (arith, rested))
one_did (x ∷ xs) (suc i) v at all whole =
    let most = part_of xs i v at in
    let rest = one_did xs i v at all.1 (omega (arith, whole, most)) in
    let one = all.0 (omega (arith, whole, most)) in
    (let w = rest.0 in let o = one.0 in omega arith, let r = rest.1 in let o = one.1 in omega arith)
  where
    part_of : (us : List Deeds) (j : ℕ) (u : Deeds) → get_elem? us j ≡ some u → u.parts ≤ total_deeds (λ v. v.parts) us
    part_of [] j u here = absurd (some-ne-none u (sym here))
    part_of (y ∷ ys) zero u here = let same = ap (λ (z : Deeds). z.parts) (some-injective y u here) in omega arith
    part_of (y ∷ ys) (suc j) u here = let more = part_of ys j u here in omega arith

-- the first pass, which has all parts
pub opens : IsCovered false (deeds 8192 0 0 ∷ [])
opens = record { covered = omega arith; whole = omega arith; idle = ((λ nil. absurd (omega (arith, nil))), tt) }

-- a step by which a pass keeps its parts, and wakes or rests as the token allows, keeps the rule
turned : (token later : Bool) (vs : List Deeds) (id : ℕ) (v w : Deeds) → IsCovered token vs → get_elem? vs id ≡ some v → w.parts ≡ v.parts → 0 < v.parts
    → w.rested + worth later + v.woke ≤ v.rested + worth token + w.woke → IsCovered later (set vs id w)
turned token later vs id v w kept at same some_part fits =
    let parts = total-set (λ u. u.parts) vs id v w at in
    let woke = total-set (λ u. u.woke) vs id v w at in
    let rested = total-set (λ u. u.rested) vs id v w at in
    let was = kept.covered in
    let whole = kept.whole in
    record {
      covered = omega (arith, fits);
      whole = omega (arith, same);
      idle = idle-set vs id w kept.idle (λ nil. absurd (omega (arith, nil, same, some_part)));
    }

-- a wake sets the token, and is counted
pub wakes : (id : ℕ) (v : Deeds) → 0 < v.parts → Turns IsCovered id v (λ _. true) (λ v _ _ w. w ≡ once_woken v)
wakes id v some_part x vs kept at = (once_woken v, turned x true vs id v (once_woken v) kept at refl some_part (omega arith), refl)

-- a rest takes a token that is set, and is counted
pub rests : (id : ℕ) (v : Deeds) → 0 < v.parts → TurnsAt IsCovered id v true false (λ v _ _ w. w ≡ once_rested v)
rests id v some_part vs kept at = (once_rested v, turned true false vs id v (once_rested v) kept at refl some_part (omega arith), refl)

-- a pass with all parts sees that the rests are at most the wakes
pub settles : (id : ℕ) (v : Deeds) → v.parts ≡ 8192 → Turns IsCovered id v (λ _. true) (λ v _ _ _. v.rested ≤ v.woke)
settles id v all x vs kept at =
    let alone = one_did vs id v at kept.idle (kept.whole ∙ sym all) in (
      once_woken v,
      turned x true vs id v (once_woken v) kept at refl (omega (arith, all)) (omega arith),
      (let was = kept.covered in let a = alone.0 in let b = alone.1 in omega arith),
    )

-- one part is cut off
pub shares : (id : ℕ) (v : Deeds) → 1 < v.parts → Forks IsCovered id v (one_part_less v) (deeds 1 0 0)
shares id v two x vs kept at =
    let w = one_part_less v in
    let vs' = set vs id w in
    let parts = total-set (λ u. u.parts) vs id v w at in
    let woke = total-set (λ u. u.woke) vs id v w at in
    let rested = total-set (λ u. u.rested) vs id v w at in
    let parts' = total-snoc (λ u. u.parts) vs' (deeds 1 0 0) in
    let woke' = total-snoc (λ u. u.woke) vs' (deeds 1 0 0) in
    let rested' = total-snoc (λ u. u.rested) vs' (deeds 1 0 0) in
    let was = kept.covered in
    let whole = kept.whole in
    record {
      covered = omega arith;
      whole = omega (arith, two);
      idle = idle-snoc vs' (deeds 1 0 0) (idle-set vs id w kept.idle (λ nil. absurd (omega (arith, nil, two)))) (λ nil. absurd (omega (arith, nil)));
    }

-- all is cut off
pub leaves : (id : ℕ) (v : Deeds) → Forks IsCovered id v (deeds 0 0 0) v
leaves id v x vs kept at =
    let w = deeds 0 0 0 in
    let vs' = set vs id w in
    let parts = total-set (λ u. u.parts) vs id v w at in
    let woke = total-set (λ u. u.woke) vs id v w at in
    let rested = total-set (λ u. u.rested) vs id v w at in
    let parts' = total-snoc (λ u. u.parts) vs' v in
    let woke' = total-snoc (λ u. u.woke) vs' v in
    let rested' = total-snoc (λ u. u.rested) vs' v in
    let was = kept.covered in
    let whole = kept.whole in
    record {
      covered = omega arith;
      whole = omega arith;
      idle = idle-snoc vs' v (idle-set vs id w kept.idle (λ _. (refl, refl))) (idle_at vs id v at kept.idle);
    }

-- two passes are added up
pub joins : (id : ℕ) (v : Deeds) (other : ℕ) (w : Deeds) → 0 < v.parts → Merges IsCovered id v other w (added v w) (deeds 0 0 0)
joins id v other w some_part x vs kept at apart there =
    let both = added v w in
    let empty = deeds 0 0 0 in
    let vs' = set vs id both in
    let parts = total-set (λ u. u.parts) vs id v both at in
    let woke = total-set (λ u. u.woke) vs id v both at in
    let rested = total-set (λ u. u.rested) vs id v both at in
    let parts' = total-set (λ u. u.parts) vs' other w empty there in
    let woke' = total-set (λ u. u.woke) vs' other w empty there in
    let rested' = total-set (λ u. u.rested) vs' other w empty there in
    let was = kept.covered in
    let whole = kept.whole in
    record {
      covered = omega arith;
      whole = omega arith;
      idle = idle-set vs' other empty (idle-set vs id both kept.idle (λ nil. absurd (omega (arith, nil, some_part)))) (λ _. (refl, refl));
    }
