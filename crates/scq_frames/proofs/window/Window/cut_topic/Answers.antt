use Rattle.std.proofs.Common.{◌≡◌, ◌≤◌, ℕ, List, length, take, drop, ◌++◌, sym, ◌∙◌, ap, subst, arith}
use Rattle.std.specs.List.{before_first}
use Rattle.std.proofs.Math.Seq.{take-length}
use Rattle.scq_topics.specs.Exports.{is_space}
use Rattle.scq_frames.proofs.TrimLemmas.{topic-cut}
use Rattle.scq_frames.proofs.window.Window.cut_topic.Goals as goal

pub returns-then-most-len-clause-topic : goal.returns-then-most-len-clause-topic
returns-then-most-len-clause-topic c =
    let held = c.args.self.now in
    let whole = c.front.ensures ∙ ap (λ (n : ℕ). take n held) c.len.ensures ∙ take-length held in
    let topic : length c.split_line.result.0.now ≡ length (before_first is_space held) =
    ap length c.split_line.ensures.topic ∙ ap (λ (l : List ℕ). length (before_first is_space l)) whole in
    subst (λ (l : List ℕ). length (before_first is_space l) ≤ c.args.most) (sym (c.cut.ensures ∙ ap (λ (n : ℕ). take c.args.most held ++ drop n held) topic))
    (topic-cut c.args.most held (omega (arith, topic, c.if-most-len.true)))
