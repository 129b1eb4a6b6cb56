-- No message is cut, or all is one piece.
use Rattle.std.proofs.Common.{rules, sym, subst, arith, refl, List, map, Bor}
use Rattle.std.specs.Prelude.{IfOk, IsTrue, Result}
use Rattle.std.specs.List.{All}
use Rattle.std.proofs.lemmas.List.Folds.{flat_map-map}
use Rattle.std.proofs.lemmas.Result.{IfOk-weaker}
use Rattle.scq_word.specs.declared.NoMemory.{NoMemory}
use Rattle.scq_collect.specs.declared.spans.Span.{Span}
use Rattle.scq_collect.specs.declared.stretches.Stretch.{Stretch}
use Rattle.scq_collect.specs.Exports.{without_way, AreOfMembers, AreNext}
use Rattle.scq_collect.proofs.LaidLaws.{laid-codable}
use Rattle.scq_collect.proofs.Stretched.{of-members, of-members-in-one}
use Rattle.scq_collect.proofs.stretches.stretches_in_order.Goals as goal

pub returns-then-are_whole : goal.returns-then-are_whole
returns-then-are_whole g c = λ members laid.
    let answers = map without_way members in
    let made = c.in_ok-made.made.items in
    let spans : Bor (List Span) → List Span = λ cut. cut.now in
    let whole : All (λ s. IfOk s (λ s. IsTrue s.whole)) made =
    subst (λ (rs : List (Result Stretch NoMemory)). All (λ s. IfOk s (λ s. IsTrue s.whole)) rs) c.as_slice.ensures.value (c.are_whole.ensures (search rules)) in
    of-members c.args.topics.now members (map spans c.args.cuts.now) made (c.in_ok-made.ensures answers laid)
    (laid-codable answers c.args.blocks.now laid)
    (subst (AreNext 0) (sym (flat_map-map (λ (ss : List Span). ss) spans c.args.cuts.now)) c.requires.all) whole

pub returns : goal.returns
returns g c = λ members laid.
    let answers = map without_way members in
    IfOk-weaker c.stretches_of-2.result _ (λ made. AreOfMembers c.args.topics.now members made.items)
    (λ made are. of-members-in-one c.args.topics.now members _ made.items are (laid-codable answers c.args.blocks.now laid) (refl, omega arith, refl))
    (c.stretches_of-2.ensures answers laid)
