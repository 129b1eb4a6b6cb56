-- What was passed on, as it is read: each is the reading of a send, or what was made directly.
use Rattle.std.proofs.Common.{◌≡◌, sym, ◌∙◌, ap, subst, List, [], ◌∷◌, ◌++◌, map, ⊎_elim, rules}
use Rattle.std.specs.List.{Contains}
use Rattle.std.specs.List.Sorted.{IsPermutation}
use Rattle.std.proofs.lemmas.List.{append_assoc, map-append}
use Rattle.std.proofs.lemmas.List.Elements.{Contains-append_left, Contains-push, Contains-push_cases}
use Rattle.std.proofs.lemmas.List.Sorted.{IsPermutation-refl, IsPermutation-trans, IsPermutation-append_left, IsPermutation-append_right, IsPermutation-append_comm}
use Rattle.scq_passes.specs.Exports.{ArePassedOn, and_sent, and_made}
use Rattle.scq_passes.specs.PassedOn.{none}

module _ {P S D : Type 0} {Sends : P → S → Type 0} {Makes : P → D → Type 0} where
  -- what each send is of
  pub passed-send : (ps : List P) (sends : List S) (directs : List D) → ArePassedOn Sends Makes ps sends directs → (s : S) → Contains sends s
      → (p : P) × Contains ps p × Sends p s
  passed-send ps sends directs none s has = absurd (search rules)
  passed-send ps sends directs (and_sent {ps = qs} {sends = before} {directs = ds} p send more is) s has =
      ⊎_elim (λ (h : Contains before s).
      let its = passed-send qs before directs more s h in
      (its.0, Contains-append_left qs (p ∷ []) its.0 its.1, its.2))
      (λ (same : send ≡ s). (p, Contains-push qs p, subst (Sends p) same is))
      (Contains-push_cases before send s has)
  passed-send ps sends directs (and_made {ps = qs} {sends = before} {directs = ds} p d more is) s has =
      let its = passed-send qs sends ds more s has in
      (its.0, Contains-append_left qs (p ∷ []) its.0 its.1, its.2)

-- one more behind the first of two lists
behind-first : {A : Type 0} (xs us vs : List A) (x : A) → IsPermutation xs (us ++ vs) → IsPermutation (xs ++ x ∷ []) ((us ++ x ∷ []) ++ vs)
behind-first xs us vs x same =
    IsPermutation-trans (xs ++ x ∷ []) ((us ++ vs) ++ x ∷ []) ((us ++ x ∷ []) ++ vs) (IsPermutation-append_left (x ∷ []) xs (us ++ vs) same)
    (subst (λ l. IsPermutation l ((us ++ x ∷ []) ++ vs)) (sym (append_assoc us vs (x ∷ [])))
    (subst (IsPermutation (us ++ (vs ++ x ∷ []))) (sym (append_assoc us (x ∷ []) vs))
    (IsPermutation-append_right us (vs ++ x ∷ []) (x ∷ vs) (IsPermutation-append_comm vs (x ∷ [])))))

module _ {P S D C : Type 0} {Sends : P → S → Type 0} {Makes : P → D → Type 0} (result : P → C) (read : S → C) (plain : D → C)
    (sent : (p : P) (s : S) → Sends p s → read s ≡ result p) (made : (p : P) (d : D) → Makes p d → plain d ≡ result p) where
  -- the results of all are those that the sends are read as, and those that were made
  pub passed-results : (ps : List P) (sends : List S) (directs : List D) → ArePassedOn Sends Makes ps sends directs
      → IsPermutation (map result ps) (map read sends ++ map plain directs)
  passed-results ps sends directs none = IsPermutation-refl []
  passed-results ps sends directs (and_sent {ps = qs} {sends = before} {directs = ds} p send more is) =
      let left : map result (qs ++ p ∷ []) ≡ map result qs ++ result p ∷ [] = map-append result qs (p ∷ []) in
      let right : map read (before ++ send ∷ []) ≡ map read before ++ result p ∷ [] =
      map-append read before (send ∷ []) ∙ ap (λ c. map read before ++ c ∷ []) (sent p send is) in
      subst (λ l. IsPermutation l (map read (before ++ send ∷ []) ++ map plain directs)) (sym left)
      (subst (λ l. IsPermutation (map result qs ++ result p ∷ []) (l ++ map plain directs)) (sym right)
      (behind-first (map result qs) (map read before) (map plain directs) (result p) (passed-results qs before directs more)))
  passed-results ps sends directs (and_made {ps = qs} {sends = before} {directs = ds} p d more is) =
      let left : map result (qs ++ p ∷ []) ≡ map result qs ++ result p ∷ [] = map-append result qs (p ∷ []) in
      let right : map plain (ds ++ d ∷ []) ≡ map plain ds ++ result p ∷ [] =
      map-append plain ds (d ∷ []) ∙ ap (λ c. map plain ds ++ c ∷ []) (made p d is) in
      subst (λ l. IsPermutation l (map read sends ++ map plain (ds ++ d ∷ []))) (sym left)
      (subst (λ l. IsPermutation (map result qs ++ result p ∷ []) (map read sends ++ l)) (sym right)
      (subst (IsPermutation (map result qs ++ result p ∷ [])) (append_assoc (map read sends) (map plain ds) (result p ∷ []))
      (IsPermutation-append_left (result p ∷ []) (map result qs) (map read sends ++ map plain ds) (passed-results qs sends ds more))))
