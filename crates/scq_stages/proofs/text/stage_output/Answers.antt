use Rattle.std.proofs.Common.{rules, ◌∙◌, ap, arith, List, map, length}
use Rattle.std.specs.Prelude.{flat_map, sum_by}
use Rattle.std.proofs.lemmas.List.{take_all}
use Rattle.scq_stages.specs.declared.finished.Finished.{Finished}
use Rattle.scq_stages.specs.Exports.{finished_in, handled_line, text_of_handled, without_way}
use Rattle.scq_stages.proofs.Merged.{merged-exactly, merged-one-thread}
use Rattle.scq_stages.proofs.Texts.{Positioned, text-of}
use Rattle.scq_stages.proofs.text.stage_output.Goals as goal

pub returns-clause-text : goal.returns-clause-text
returns-clause-text c =
    let members = c.in_ok-members.members.items in
    let items = c.deref-member-items.result.now in
    let whole = take_all c.members.member-index items (omega (arith, c.members-test.false)) ∙ c.deref-member-items.ensures.value in
    let lines = c.members.invariant.text ∙ ap (λ (l : List Positioned). flat_map (λ m. handled_line (without_way m.2.now)) l) whole in
    let bytes = c.members.invariant.bytes ∙ ap (λ (l : List Positioned). sum_by (λ m. length m.2.now.payload) l) whole in (
      map (λ m. m.2.now) members,
      c.in_ok-members.ensures,
      text-of members c.from.result c.members.text.items _ c.members.bytes (c.from.ensures ∙ c.in_ok-push_total.ensures) lines (search rules) bytes,
    )

pub returns-clause-exact : goal.returns-clause-exact
returns-clause-exact c given order same =
    let text = returns-clause-text c in
    text.2 ∙ ap (λ (l : List Finished). text_of_handled (map without_way l)) (merged-exactly (finished_in c.args.lists.now) text.0 given text.1 order same)

pub returns-clause-one_thread : goal.returns-clause-one_thread
returns-clause-one_thread c contents same =
    let text = returns-clause-text c in
    text.2 ∙ ap text_of_handled (merged-one-thread contents (finished_in c.args.lists.now) text.0 text.1 same)
