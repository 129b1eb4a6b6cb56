-- In order already, or sorted.
use Rattle.std.proofs.Common.{rules, ◌∙◌, ap, subst, ◌++◌}
use Rattle.std.specs.List.{filter}
use Rattle.std.proofs.lemmas.List.Sorted.{IsPermutation-refl, answers_always}
use Rattle.scq_collect.specs.Exports.{IsSorted, is_in, plain, position_of_spot}
use Rattle.scq_collect.proofs.Merged.{sorted-from}
use Rattle.scq_collect.proofs.SpotLaws.{sorted-spots}
use Rattle.scq_collect.proofs.ordering.take_spots.Goals as goal

pub returns-then-are_in_order : goal.returns-then-are_in_order
returns-then-are_in_order c = λ answers laid.
    let spots = c.push_spots.new.spots.items in
    let are = c.in_ok-push_spots.ensures answers laid ∙ ap (λ ss. plain ss ++ filter (is_in c.args.span.now) answers) c.clear.ensures.items in
    let both = sorted-spots (filter (is_in c.args.span.now) answers) spots spots are (IsPermutation-refl spots)
    (subst (IsSorted position_of_spot) c.as_slice.ensures.value (c.are_in_order.ensures (search rules))) in
    record { same = both.0; sorted = both.1 }

pub returns : goal.returns
returns c = λ answers laid.
    let spots = c.push_spots.new.spots.items in
    let sorted = c.sort_unstable_by_key.new.self.items in
    let are = c.in_ok-push_spots.ensures answers laid ∙ ap (λ ss. plain ss ++ filter (is_in c.args.span.now) answers) c.clear.ensures.items in
    let both = sorted-spots (filter (is_in c.args.span.now) answers) spots sorted are c.sort_unstable_by_key.ensures.permutation
    (sorted-from position_of_spot sorted (c.sort_unstable_by_key.ensures.sorted position_of_spot (answers_always _ _ _ (λ f a r f' k. search rules)))) in
    record { same = both.0; sorted = both.1 }
