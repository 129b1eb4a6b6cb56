use Rattle.std.proofs.Common.{rules, ℕ, subst, sym}
use Rattle.std.specs.Prelude.{nat_le}
use Rattle.std.proofs.lemmas.Fn.{always_returns_same}
use Rattle.std.proofs.lemmas.List.Sorted.{IsPartitionedBy-leb}
use Rattle.scq_law.specs.declared.marks.Decision.{Decision}
use Rattle.scq_law.specs.Exports.{IsPutMark}
use Rattle.scq_law.proofs.Order.PutMarks.{Ends, mark_first, mark_before}
use Rattle.scq_law.proofs.marks.last_decision.Goals as goal

pub returns-then-after-eq0 : goal.returns-then-after-eq0
returns-then-after-eq0 c =
    λ rise. let ends : Ends c.args.decisions.now c.args.place c.partition_point-after.result =
    c.partition_point-after.ensures.partitioned (λ (d : Decision). nat_le d.head c.args.place) (always_returns_same _ _ _ (λ a r f' k. search rules))
    (IsPartitionedBy-leb (λ (d : Decision). d.head) c.args.decisions.now c.args.place rise.heads) in
    mark_first c.args.decisions.now c.args.first c.args.place
    (subst (λ (n : ℕ). Ends c.args.decisions.now c.args.place n) (search rules) ends)

pub returns-else-after-eq0 : goal.returns-else-after-eq0
returns-else-after-eq0 c =
    λ rise. let ends : Ends c.args.decisions.now c.args.place c.partition_point-after.result =
    c.partition_point-after.ensures.partitioned (λ (d : Decision). nat_le d.head c.args.place) (always_returns_same _ _ _ (λ a r f' k. search rules))
    (IsPartitionedBy-leb (λ (d : Decision). d.head) c.args.decisions.now c.args.place rise.heads) in
    subst (λ (n : ℕ). IsPutMark c.args.decisions.now c.args.first c.args.place n) (sym c.max.ensures)
    (mark_before c.args.decisions.now c.args.first c.args.place c.partition_point-after.result (record { head = 0; point = 0 }) rise ends (search rules)
    c.partition_point-after.ensures.bound)
