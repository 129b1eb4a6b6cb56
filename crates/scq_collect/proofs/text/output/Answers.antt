use Rattle.std.proofs.Common.{◌∙◌, sym, ap, arith, ℕ, List, ◌++◌, map}
use Rattle.std.specs.Prelude.{flat_map}
use Rattle.std.proofs.lemmas.List.{take_all}
use Rattle.std.proofs.lemmas.List.Folds.{flat_map-map}
use Rattle.scq_collect.specs.declared.whole.Whole.{Whole}
use Rattle.scq_collect.specs.Exports.{reply_line, text_of_answers, total_lines, answer_of_whole}
use Rattle.scq_collect.proofs.text.output.Goals as goal

pub returns-clause-text : goal.returns-clause-text
returns-clause-text c =
    let topics = c.args.topics.now in
    let members = c.args.wholes.now in
    let lines : List Whole → List ℕ = λ members. flat_map (λ a. reply_line topics (answer_of_whole a)) members in
    let whole = take_all c.loop-whole.whole-index members (omega (arith, c.loop-whole-test.false)) in
    c.from.ensures ∙ c.in_ok-push_totals.ensures
    ∙ ap (λ (front : List ℕ). front ++ total_lines topics (map answer_of_whole members))
    (c.loop-whole.invariant ∙ ap lines whole ∙ sym (flat_map-map (reply_line topics) answer_of_whole members))

pub returns-clause-one_thread : goal.returns-clause-one_thread
returns-clause-one_thread c contents same = returns-clause-text c ∙ ap (text_of_answers c.args.topics.now) same
