use Rattle.std.proofs.Common.{rules}
use Rattle.std.proofs.lemmas.List.Sorted.{answers_always}
use Rattle.scq_law.specs.declared.marks.Member.{Member}
use Rattle.scq_law.proofs.Order.KeyOrder.{in_order}
use Rattle.scq_law.proofs.ordering.sort_members.Goals as goal

pub returns-clause-sorted : goal.returns-clause-sorted
returns-clause-sorted c =
    in_order c.sort_by_key.new.self.items
    (c.in_ok-sort_by_key.ensures.sorted (λ (m : Member). m.key) (answers_always _ _ _ (λ f a r f' k. search rules)))
