use Rattle.std.proofs.Common.{◌≡◌, take, map}
use Rattle.scq_law.specs.declared.marks.Member.{Member}
use Rattle.scq_law.proofs.ordering.ordered.Given as goal

abbrev pub invariant-loop-member : goal.invariant-loop-member
invariant-loop-member l = l.list.items ≡ map (λ (m : Member). m.ordered) (take l.member-index l.member-items)
