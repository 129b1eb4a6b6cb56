-- The blocks' answers are all.
use Rattle.std.proofs.Common.{rules, ◌≡◌, ◌∙◌, ◌++◌, ap, sym, subst, List, map, append_assoc}
use Rattle.std.specs.Prelude.{flat_map}
use Rattle.std.specs.List.{AllZip}
use Rattle.scq_collect.specs.Exports.{HasAnswers, PartAnswer, without_way, AreLaid}
use Rattle.std.proofs.lemmas.Result.{on_ok_weaker}
use Rattle.scq_collect.specs.declared.answered.Answered.{Answered}
use Rattle.scq_collect.proofs.SpotLaws.{codable-groups, codable-last}
use Rattle.scq_collect.proofs.answers.Answers.push_blocks.Goals as goal

pub returns : goal.returns
returns c = λ members laid.
    let inside = c.self.inside in
    let full = inside.full.items in
    let answers = map without_way inside.log.items in
    let held = c.self.invariant.0 in
    let flat : List PartAnswer = flat_map (λ group. group) held.groups in
    let is : c.args.self.now ≡ inside.log.items = search rules in
    let first = c.in_ok-push_blocks.ensures members held.groups laid (codable-groups full inside.block inside.before answers held)
    (subst (λ l. AllZip HasAnswers l held.groups) (sym c.as_slice-2.ensures.value) held.each) in
    let second = c.push_block.ensures (members ++ flat) held.last first (codable-last full inside.block inside.before answers held) held.rest in
    let same : (members ++ flat) ++ held.last ≡ members ++ map without_way c.args.self.now =
    append_assoc members flat held.last ∙ ap (λ (l : List PartAnswer). members ++ l) (sym held.all)
    ∙ ap (λ (l : List Answered). members ++ map without_way l) (sym is) in
    on_ok_weaker c.push_block.result (subst (λ (l : List PartAnswer). AreLaid l c.push_block.new.blocks.items) same) second
