-- What two reads took, one after the other.
use Rattle.std.proofs.Common.{◌∙◌, sym, ap, ℕ, List, Option, Some, None, ◌++◌}
use Rattle.std.specs.Option.{option_map}
use Rattle.std.proofs.lemmas.List.{append_assoc}
use Rattle.scq_outside.specs.Exports.{Took}

pub took-more : (xs ys : List ℕ) (old now new : Option (List ℕ)) → Took xs old now → Took ys now new → Took (xs ++ ys) old new
took-more xs ys old now None first more = first ∙ ap (option_map (λ rest. xs ++ rest)) more
took-more xs ys old now (Some left) first more =
    first ∙ ap (option_map (λ rest. xs ++ rest)) more ∙ ap Some (sym (append_assoc xs ys left))
