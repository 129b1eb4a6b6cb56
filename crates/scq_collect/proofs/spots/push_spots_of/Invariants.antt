use Rattle.std.proofs.Common.{◌≡◌, ◌++◌, List, length}
use Rattle.std.specs.List.{filter}
use Rattle.scq_collect.specs.Exports.{PartAnswer, IsBlockOf, is_in, plain}
use Rattle.scq_collect.proofs.SpotLaws.{Walked}
use Rattle.scq_collect.proofs.spots.push_spots_of.Given as goal

-- those up to here that stand in the span were added
abbrev pub invariant-answers : goal.invariant-answers
invariant-answers l = (answers : List PartAnswer) → IsBlockOf l.block answers
    → Walked answers l.before l.rest (λ done. plain l.spots.items ≡ plain l.fn.spots.items ++ filter (is_in l.span) done)

abbrev pub decreases-answers : goal.decreases-answers
decreases-answers l = length l.rest
