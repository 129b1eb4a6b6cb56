-- Lists of the rings of a setup, each at its number.
use Rattle.std.proofs.Common.{◌≡◌, ℕ, suc, zero, ◌+◌, ◌<◌, List, [], ◌∷◌, ◌++◌, length, sym, ◌∙◌, subst, arith}
use Rattle.std.specs.Prelude.{slice_index_or}
use Rattle.std.proofs.lemmas.List.{length-append}
use Rattle.scq_word.specs.declared.setup.Setup.{Setup}
use Rattle.scq_band.specs.declared.ring.Ring.{Ring}
use Rattle.scq_band.specs.Exports.{IsRing, RingsFrom, AreRings}

-- what is read at a number is the ring of that number
pub ring_read : (c : Setup) (k : ℕ) (xs : List Ring) (i : ℕ) (x : Ring) → RingsFrom c k xs → i < length xs → x ≡ slice_index_or xs i x
    → (x.number ≡ k + i) × IsRing c x
ring_read c k [] i x all low is = absurd (omega arith)
ring_read c k (y ∷ ys) zero x all low is =
    let it = all.0.0 in
    let at : y.number ≡ k + 0 = omega arith in
    subst (λ (z : Ring). (z.number ≡ k + 0) × IsRing c z) (sym is) (at, all.0.1)
ring_read c k (y ∷ ys) (suc i) x all low is =
    let rest = ring_read c (suc k) ys i x all.1 (omega arith) is in
    let at = rest.0 in (omega arith, rest.1)

rings_behind : (c : Setup) (k : ℕ) (xs : List Ring) (x : Ring) → RingsFrom c k xs → x.number ≡ k + length xs → IsRing c x → RingsFrom c k (xs ++ x ∷ [])
rings_behind c k [] x all at is = let here : x.number ≡ k = omega arith in ((here, is), tt)
rings_behind c k (y ∷ ys) x all at is = (all.0, rings_behind c (suc k) ys x all.1 (omega arith) is)

-- one more, behind them
pub rings_next : (c : Setup) (n : ℕ) (xs : List Ring) (x : Ring) → AreRings c n xs → x.number ≡ n → IsRing c x → AreRings c (n + 1) (xs ++ x ∷ [])
rings_next c n xs x are at is =
    let count = are.count in
    let here : x.number ≡ 0 + length xs = omega arith in
    record {
      count = length-append xs (x ∷ []) ∙ (omega arith);
      each = rings_behind c 0 xs x are.each here is;
    }
