-- Bytes that lie side by side are cut and joined. Assumes `Logic`.
use Rattle.std.proofs.Common.{ℕ, ◌+◌, ◌≤◌, List, [], ◌∷◌, ◌++◌, length, take, drop, refl, sym, length-take-le, take-append-drop}
use seplogic.Ra.Ura.{Ura}
use base.Fraction.{full_share}
use base.Logic.{ent, sep, never_e, via, fst∗}
use base.Fml.{fsep, feq, ffalse}
use types.Logic.{Logic, sem}
use types.Kit.{‵, ◌⊛◌, ◌$◌, ◌∵◌, !, qed, by, move, drop as lets, use1, use2, split, fsplit, fjoin, feq_i, rewrite, done}
use denote.RawPtr.{Ptr, block_ptr, null_ptr, ◌+ₚ◌}
use denote.RawPtr.Bytes.{bytes, bytes_cut, bytes_glue, bytes_apart, bytes_whole}
use Rattle.bytes.specs.Ownership.{run_owns}

module _ {M : Type 1} {𝓤 : Ura M} (𝓛 : Logic 𝓤) where
  apart : (xs : List ℕ) (b o : ℕ) → ent 𝓤 (sem 𝓛 (run_owns (block_ptr b o) xs)) (sem 𝓛 (bytes full_share xs b o))
  apart xs b o =
      qed 𝓛 (‵ (run_owns (block_ptr b o) xs) ∷ []) ∵
      use1 𝓛 (‵ (fsep (feq ℕ (length xs) (length xs)) (bytes full_share xs b o))) (bytes_apart 𝓛 full_share (length xs) xs b o) $ fsplit ! $ lets ! $ done !

  whole : (xs : List ℕ) (b o : ℕ) → ent 𝓤 (sem 𝓛 (bytes full_share xs b o)) (sem 𝓛 (run_owns (block_ptr b o) xs))
  whole xs b o =
      qed 𝓛 (‵ (bytes full_share xs b o) ∷ []) ∵ feq_i ! ℕ (length xs) (length xs) refl $ fjoin ! $ by ! (bytes_whole 𝓛 full_share (length xs) xs b o)

  -- the first n bytes, and those behind them
  pub cut : (p : Ptr) (xs : List ℕ) (n : ℕ) → n ≤ length xs
      → ent 𝓤 (sem 𝓛 (run_owns p xs)) (sep 𝓤 (sem 𝓛 (run_owns p (take n xs))) (sem 𝓛 (run_owns (p +ₚ n) (drop n xs))))
  cut null_ptr xs n le = never_e 𝓤 _
  cut (block_ptr b o) xs n le =
      let front = take n xs in
      let back = drop n xs in
      qed 𝓛 (‵ (run_owns (block_ptr b o) xs) ∷ []) ∵ use1 𝓛 (‵ (bytes full_share xs b o)) (apart xs b o) $
      rewrite ! 0 (λ ys. ‵ (bytes full_share ys b o)) (sym (take-append-drop n xs)) refl $
      use1 𝓛 (‵ (bytes full_share front b o) ⊛ ‵ (bytes full_share back b (o + length front))) (bytes_cut 𝓛 full_share front back b o) $ split ! $
      rewrite ! 1 (λ k. ‵ (bytes full_share back b (o + k))) (length-take-le n xs le) refl $
      use1 𝓛 (‵ (run_owns (block_ptr b o) front)) (whole front b o) $ move ! (1 ∷ []) $
      use1 𝓛 (‵ (run_owns (block_ptr b (o + n)) back)) (whole back b (o + n)) $ move ! (1 ∷ 0 ∷ []) $ done !

  -- the bytes ys begin where the bytes xs end
  pub join : (p : Ptr) (xs ys : List ℕ) → ent 𝓤 (sep 𝓤 (sem 𝓛 (run_owns p xs)) (sem 𝓛 (run_owns (p +ₚ length xs) ys))) (sem 𝓛 (run_owns p (xs ++ ys)))
  join null_ptr xs ys = via 𝓤 (sem 𝓛 ffalse) (fst∗ 𝓤 (sem 𝓛 ffalse) (sem 𝓛 ffalse)) (never_e 𝓤 _)
  join (block_ptr b o) xs ys =
      qed 𝓛 (‵ (run_owns (block_ptr b o) xs) ∷ ‵ (run_owns (block_ptr b (o + length xs)) ys) ∷ []) ∵
      use1 𝓛 (‵ (bytes full_share xs b o)) (apart xs b o) $ move ! (1 ∷ []) $
      use1 𝓛 (‵ (bytes full_share ys b (o + length xs))) (apart ys b (o + length xs)) $ move ! (1 ∷ 0 ∷ []) $
      use2 𝓛 (‵ (bytes full_share (xs ++ ys) b o)) (bytes_glue 𝓛 full_share xs ys b o) $ by ! (whole (xs ++ ys) b o)
