-- The seats are gathered into one view, one by one, the last one first.
use Rattle.std.proofs.Common.{◌≡◌, ℕ, zero, suc, ◌+◌, ◌≤◌, List, [], ◌∷◌, ◌++◌, map, length, refl, sym, ◌∙◌, ap, subst, inl, inr, arith, append_assoc, eq-eqb}
use Rattle.std.specs.Prelude.{Some, slice_get, sum_by}
use Rattle.std.specs.List.{Contains}
use Rattle.std.proofs.lemmas.List.Sums.{sum_by_push}
use Rattle.scq_law.specs.Exports.{times}
use Rattle.scq_band.specs.Exports.{Seen, both_seen, Member, both_of, my, indices_of, lifted_of, IsMemberOf, OutOrHome, HasAll, SeatsAreGathered}
use Rattle.scq_band.specs.Exports.{all_seen}
use Rattle.scq_band.specs.Known.{Known}
use Rattle.scq_band.specs.Standing.{Standing}
use Rattle.scq_band.proofs.SeatsHome.{has_one, has_more}

module _ {B : Type 0} where
  pub gathered_first : (contents : B → List ℕ) (rings : ℕ) (all left : List (Standing B)) (s : Standing B) (w : Known) → all ≡ left ++ s ∷ []
      → w.seats ≡ my w ∷ [] → IsMemberOf contents s (my w) → w.numbers ≡ s.numbers → length s.numbers ≡ rings → w.gate ≡ s.gate → (told : Seen) → told ≡ s.seen
      → SeatsAreGathered contents rings all left w told
  gathered_first contents rings all left s w split alone member numbers count gate told seen =
      record {
        done = s ∷ [];
        split = split;
        has = has_one contents rings s w alone member numbers count gate;
        seen = seen;
        some = λ none. let no : my w ∷ [] ≡ [] = sym alone ∙ none in cc;
      }

  pub gathered_more : (contents : B → List ℕ) (rings : ℕ) (all before left : List (Standing B)) (s : Standing B) (v w : Known) (told : Seen)
      → SeatsAreGathered contents rings all before v told
      → before ≡ left ++ s ∷ [] → w.seats ≡ my w ∷ [] → IsMemberOf contents s (my w) → w.numbers ≡ s.numbers → length s.numbers ≡ rings
      → w.gate ≡ s.gate → (more : Seen) → more ≡ s.seen → SeatsAreGathered contents rings all left (both_of v w) (both_seen told more)
  gathered_more contents rings all before left s v w told now last alone member numbers count gate more seen =
      record {
        done = s ∷ now.done;
        split = now.split ∙ ap (λ (l : List (Standing B)). l ++ now.done) last ∙ append_assoc left (s ∷ []) now.done;
        has = has_more contents rings s now.done v w now.has alone member numbers count gate;
        seen = ap (λ (l : Seen). both_seen l more) now.seen ∙ ap (both_seen (all_seen now.done)) seen;
        some =
            λ none.
            let no : my w ∷ v.seats ≡ [] = ap (λ (xs : List Member). xs ++ v.seats) (sym alone) ∙ none in
            cc;
      }

  -- what is out, where one seat more has its slots at home
  out_more : (contents : B → List ℕ) (out more left : List (ℕ × B)) (x : Member) (xs : List Member) → OutOrHome contents out more xs
      → OutOrHome contents more left (x ∷ []) → OutOrHome contents out left (x ∷ xs)
  out_more contents out more left x xs before now o has =
      elim (before o has) [
        | inl there ↦
            elim (now o there) [
              | inl still ↦ inl still
              | inr b ↦ inr record { at = 0; member = x; here = refl; brought = brought b.at b.member b.here b.brought }
            ]
        | inr b ↦ inr record { at = suc b.at; member = b.member; here = b.here; brought = b.brought }
      ]
    where
      brought : (at : ℕ) (y : Member) → slice_get (x ∷ []) at ≡ Some y → Contains y.brought (o.0, contents o.1) → Contains x.brought (o.0, contents o.1)
      brought zero y e it = let same : x ≡ y = cc in subst (λ (u : Member). Contains u.brought (o.0, contents o.1)) (sym same) it
      brought (suc at) y e it = absurd (cc)

  pub out_joined : (contents : B → List ℕ) (out more left : List (ℕ × B)) (v w : Known) → w.seats ≡ my w ∷ [] → OutOrHome contents out more v.seats
      → OutOrHome contents more left (my w ∷ []) → OutOrHome contents out left (both_of v w).seats
  out_joined contents out more left v w alone before now =
      subst (λ (xs : List Member). OutOrHome contents out left (xs ++ v.seats)) (sym alone) (out_more contents out more left (my w) v.seats before now)

  -- nothing is out
  pub all_home_then : (contents : B → List ℕ) (out left : List (ℕ × B)) (xs : List Member) → OutOrHome contents out left xs → length left ≡ 0
      → OutOrHome contents out [] xs
  all_home_then contents out [] xs all none = all
  all_home_then contents out (o ∷ left) xs all none = absurd (omega arith)

  -- what is lifted of the last seat is out
  pub out_some : (f : Standing B → ℕ) (seats left : List (Standing B)) (s : Standing B) (n : ℕ) → n ≡ sum_by f seats → seats ≡ left ++ s ∷ []
      → f s ≤ n
  out_some f seats left s n is last =
      let push : sum_by f seats ≡ sum_by f left + f s = ap (sum_by f) last ∙ sum_by_push f left s in
      omega (arith, push, is)

  pub out_less : (f : Standing B → ℕ) (seats left : List (Standing B)) (s : Standing B) (n more : ℕ) → n ≡ sum_by f seats → seats ≡ left ++ s ∷ []
      → more + f s ≡ n → more ≡ sum_by f left
  out_less f seats left s n more is last less =
      let push : sum_by f seats ≡ sum_by f left + f s = ap (sum_by f) last ∙ sum_by_push f left s in
      omega (arith, push, is, less)

  none_out : {T : Type 0} (pair : T → ℕ × B) (out : List T) → ((i : ℕ) → times i (indices_of (map pair out)) ≡ 0) → length out ≡ 0
  none_out {T} pair [] none = refl
  none_out {T} pair (x ∷ xs) none =
      let i = (pair x).0 in
      let here : times i (indices_of (map pair (x ∷ xs))) ≡ 1 + times i (indices_of (map pair xs)) = rw (eq-eqb i i refl) refl in
      let no = none i in
      absurd (omega (arith, here, no))

  -- no seat is left: nothing is lifted
  sum_none : (f : Standing B → ℕ) (seats : List (Standing B)) → length seats ≡ 0 → sum_by f seats ≡ 0
  sum_none f [] none = refl
  sum_none f (s ∷ seats) none = absurd (omega arith)

  -- so nothing is out
  pub none_left_out : {T : Type 0} (pair : T → ℕ × B) (out : List T) (seats : List (Standing B))
      → ((i : ℕ) → times i (indices_of (map pair out)) ≡ sum_by (λ (s : Standing B). times i (lifted_of s.hand)) seats) → length seats ≡ 0 → length out ≡ 0
  none_left_out pair out seats sums none = none_out pair out (λ i. sums i ∙ sum_none (λ (s : Standing B). times i (lifted_of s.hand)) seats none)

  -- and all of them stand in the view
  pub all_gathered : (contents : B → List ℕ) (rings : ℕ) (all left : List (Standing B)) (v : Known) (told : Seen)
      → SeatsAreGathered contents rings all left v told → length left ≡ 0 → HasAll contents rings all v × (told ≡ all_seen all)
  all_gathered contents rings all [] v told now none =
      (subst (λ (ss : List (Standing B)). HasAll contents rings ss v) (sym now.split) now.has, now.seen ∙ ap all_seen (sym now.split))
  all_gathered contents rings all (s ∷ left) v told now none = absurd (omega arith)
