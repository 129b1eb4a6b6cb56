-- What became of what was taken, once none of it was passed over.
use Rattle.std.proofs.Common.{◌≡◌, refl, sym, ◌∙◌, ap, List, [], ◌∷◌, ◌++◌, map}
use Rattle.std.specs.List.{AllZip, Contains}
use Rattle.std.proofs.lemmas.List.{map-append}
use Rattle.std.proofs.lemmas.List.Elements.{Contains-append_left, Contains-push}
use Rattle.std.proofs.lemmas.Slice.Zip.{all_zipped_more}
use Rattle.scq_passes.specs.Exports.{BecomeSoFar, and_became, and_passed_over}
use Rattle.scq_passes.specs.Becoming.{none}

module _ {T M : Type 0} {Over : T → Type 0} {Becomes : T → M → Type 0} where
  -- each take has its own then
  pub so-far-all : (takes : List T) (members : List M) → BecomeSoFar Over Becomes takes members → ((t : T) → Contains takes t → Over t → ⊥)
      → AllZip Becomes takes members
  so-far-all takes members none never = tt
  so-far-all takes members (and_became {takes = before} {members = ms} take m more is) never =
      all_zipped_more Becomes before ms take m (so-far-all before ms more (λ t has. never t (Contains-append_left before (take ∷ []) t has))) is
  so-far-all takes members (and_passed_over {takes = before} take more over) never = absurd (never take (Contains-push before take) over)

  -- and is read as what it became, where both are read alike
  pub so-far-results : {C : Type 0} (read : T → C) (plain : M → C) (takes : List T) (members : List M) → BecomeSoFar Over Becomes takes members
      → ((t : T) → Contains takes t → Over t → ⊥) → ((t : T) (m : M) → Contains takes t → Becomes t m → plain m ≡ read t)
      → map plain members ≡ map read takes
  so-far-results read plain takes members none never alike = refl
  so-far-results read plain takes members (and_became {takes = before} {members = ms} take m more is) never alike =
      let rest =
      so-far-results read plain before ms more (λ t has. never t (Contains-append_left before (take ∷ []) t has))
      (λ t n has. alike t n (Contains-append_left before (take ∷ []) t has)) in
      map-append plain ms (m ∷ []) ∙ ap (λ l. l ++ plain m ∷ []) rest
      ∙ ap (λ c. map read before ++ c ∷ []) (alike take m (Contains-push before take) is) ∙ sym (map-append read before (take ∷ []))
  so-far-results read plain takes members (and_passed_over {takes = before} take more over) never alike =
      absurd (never take (Contains-push before take) over)
