-- What follows the calls that count of a record goes on following it as it grows.
use Rattle.std.proofs.Common.{◌≡◌, sym, ◌∙◌, ap, subst, Bool, List, [], ◌∷◌, ◌++◌}
use Rattle.std.specs.Prelude.{filter}
use Rattle.std.specs.List.{AllZip}
use Rattle.std.proofs.lemmas.List.{append-nil}
use Rattle.std.proofs.lemmas.List.Elements.{filter-append}
use Rattle.std.proofs.lemmas.Slice.Zip.{all_zipped_more}
use Rattle.scq_core.specs.declared.ended.Ended.{Ended}
use Rattle.scq_passes.specs.Exports.{EachHasItsCall}

module _ {P : Type 0} (Is : P → Ended → Type 0) (counts : Ended → Bool) where
  -- by calls of which none counts
  pub follows-others : (ps : List P) (xs block : List Ended) → filter counts block ≡ [] → EachHasItsCall Is counts ps xs
      → EachHasItsCall Is counts ps (xs ++ block)
  follows-others ps xs block none was =
      let same : filter counts (xs ++ block) ≡ filter counts xs =
      filter-append counts xs block ∙ ap (λ l. filter counts xs ++ l) none ∙ append-nil (filter counts xs) in
      subst (AllZip Is ps) (sym same) was

  -- by one that counts
  pub follows-next : (ps : List P) (p : P) (xs : List Ended) (call : Ended) → filter counts (call ∷ []) ≡ call ∷ [] → Is p call
      → EachHasItsCall Is counts ps xs → EachHasItsCall Is counts (ps ++ p ∷ []) (xs ++ call ∷ [])
  follows-next ps p xs call one is was =
      let more : filter counts (xs ++ call ∷ []) ≡ filter counts xs ++ call ∷ [] =
      filter-append counts xs (call ∷ []) ∙ ap (λ l. filter counts xs ++ l) one in
      subst (AllZip Is (ps ++ p ∷ [])) (sym more) (all_zipped_more Is ps (filter counts xs) p call was is)
