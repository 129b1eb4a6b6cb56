use Rattle.std.proofs.Common.{rules}
use Rattle.std.proofs.lemmas.List.Sorted.{answers_always}
use Rattle.scq_stages.specs.Exports.{finished_in}
use Rattle.scq_stages.proofs.Merged.{merged-by}
use Rattle.scq_stages.proofs.ordering.ordered.Goals as goal

pub returns : goal.returns
returns c =
    merged-by (finished_in c.args.lists.now) c.in_ok-members.members.items c.sort_by_key.new.self.items
    c.in_ok-members.ensures.members c.in_ok-members.ensures.placed c.in_ok-sort_by_key.ensures.permutation
    (c.in_ok-sort_by_key.ensures.sorted (λ m. (m.0, m.1)) (answers_always _ _ _ (λ f a r f' k. search rules)))
