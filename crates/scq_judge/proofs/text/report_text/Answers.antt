use Rattle.std.proofs.Common.{◌∙◌}
use Rattle.std.specs.Prelude.{codes}
use Rattle.scq_judge.specs.Exports.{beside_line, count_lines, ending_lines, full_line, linearizable_line, opening_line, order_line, origin_line, waiting_line, told_by}
use Rattle.scq_judge.specs.Exports.{tests_gots, tests_order, tests_empty, tests_refused, tests_opening}
use Rattle.scq_judge.proofs.TextLemmas.{grown}
use Rattle.scq_judge.proofs.text.report_text.Goals as goal

pub returns : goal.returns
returns c =
    let t = told_by c.args.teller in
    let r = c.args.report.now in
    let b = r.breaches in
    let told = b.counterparts in
    c.from.ensures
    ∙ grown _ _ _ _ _ _ _ _ _ _ _
    (origin_line (codes "fresh") t (tests_gots r) b.fresh told.fresh)
    (beside_line (codes "once") t (tests_gots r) b.once (codes "; named before at ") told.once)
    (order_line (codes "in order") t (tests_order r) b.in_order told.in_order told.overtaker)
    (waiting_line (codes "empty") t (tests_empty r) b.empty_right told.empty_right)
    (beside_line (codes "refused never got") t (tests_refused r) b.accepted (codes "; put refused at ") told.accepted)
    (full_line t (tests_refused r) r.full)
    (opening_line t (tests_opening r) r.tokens b.opening)
    (count_lines r.counts)
    (ending_lines r)
    (linearizable_line r.linearizable)
    c.new-text.ensures.items
    (rw c.tests_gots-gots.ensures at c.in_ok-add_origin.ensures) (rw c.tests_gots-gots.ensures at c.in_ok-add_beside.ensures)
    (rw c.tests_order.ensures at c.in_ok-add_order.ensures) (rw c.tests_empty.ensures at c.in_ok-add_waiting.ensures)
    (rw c.tests_refused-refused.ensures at c.in_ok-add_beside-2.ensures) (rw c.tests_refused-refused.ensures at c.in_ok-add_full.ensures)
    c.in_ok-add_opening.ensures c.in_ok-add_counts.ensures c.in_ok-add_endings.ensures c.in_ok-add_linearizable.ensures
