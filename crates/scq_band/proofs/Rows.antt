-- The row of a seat's slots may be turned: what the seat owns is the same. Assumes `Logic`.
use Rattle.std.proofs.Common.{ℕ, List, [], ◌∷◌, ◌++◌, sym, subst}
use Rattle.std.proofs.lemmas.List.{append_assoc, append-nil}
use seplogic.Ra.Ura.{Ura}
use base.Logic.{SProp, ent, via, id⊢}
use base.Stored.{Coded}
use types.Logic.{Logic, sem}
use denote.RattleType.{RattleType}
use Rattle.atomic_table.specs.Seated.{TableId, mine}
use Rattle.atomic_table.proofs.Moves.{turns}

module _ {M : Type 1} {𝓤 : Ura M} (𝓛 : Logic 𝓤) (R : RattleType) {V : Type 0} (cv : Coded V) (z : TableId) (id : ℕ) (v : V) where
  abbrev Own : List (ℕ × R.Denot) → SProp 𝓤
  Own slots = sem 𝓛 (mine R cv.code z id (v, slots))

  -- one slot after the other goes behind the others
  pub turns_all : (front behind : List (ℕ × R.Denot)) → ent 𝓤 (Own (front ++ behind)) (Own (behind ++ front))
  turns_all [] behind =
      subst (λ (l : List (ℕ × R.Denot)). ent 𝓤 (Own behind) (Own l)) (sym (append-nil behind)) (id⊢ 𝓤 (Own behind))
  turns_all (x ∷ xs) behind =
      let on : ent 𝓤 (Own ((xs ++ behind) ++ x ∷ [])) (Own (behind ++ x ∷ xs)) =
      subst (λ (l : List (ℕ × R.Denot)). ent 𝓤 (Own l) (Own (behind ++ x ∷ xs))) (sym (append_assoc xs behind (x ∷ [])))
      (subst (λ (l : List (ℕ × R.Denot)). ent 𝓤 (Own (xs ++ (behind ++ x ∷ []))) (Own l)) (append_assoc behind (x ∷ []) xs)
      (turns_all xs (behind ++ x ∷ []))) in
      via 𝓤 (Own ((xs ++ behind) ++ x ∷ [])) (turns 𝓛 R cv z id v (x ∷ (xs ++ behind))) on
