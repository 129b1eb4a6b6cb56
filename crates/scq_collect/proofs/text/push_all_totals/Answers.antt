use Rattle.std.proofs.Common.{◌∙◌, ◌<◌, sym, ap, ℕ, List, ◌++◌, append_assoc, arith}
use Rattle.std.specs.Prelude.{flat_map}
use Rattle.std.specs.List.{range_with_len}
use Rattle.scq_collect.specs.Exports.{total_line}
use Rattle.scq_collect.proofs.Lines.{lines-more}
use Rattle.scq_collect.proofs.text.push_all_totals.Goals as goal

pub loop-topic-preserved : goal.loop-topic-preserved
loop-topic-preserved c = λ answers are.
    let line = total_line c.args.topics.now answers in
    let topic = c.loop-topic.topic in
    let small : topic < 17 = omega (arith, c.loop-topic-test.true, c.requires.numbers.1) in
    c.in_ok-push_total.ensures answers (are.counts topic small) (are.bytes topic small)
    ∙ ap (λ (text : List ℕ). text ++ line topic) (c.loop-topic.invariant answers are)
    ∙ append_assoc c.args.text.now.items (flat_map line (range_with_len 0 topic)) (line topic)
    ∙ ap (λ (totals : List ℕ). c.args.text.now.items ++ totals) (sym (lines-more line topic))
