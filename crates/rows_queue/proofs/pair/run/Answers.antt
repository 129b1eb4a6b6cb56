use Rattle.std.proofs.Common.{◌≡◌, List, [], ◌∷◌, ◌++◌, length, sym, ◌∙◌, ap, subst, rules}
use Rattle.std.specs.Prelude.{All}
use Rattle.std.proofs.lemmas.List.Elements.{All-nil, All-cons}
use Rattle.scq_queue.specs.Exports.{PassStanding, AreTheHeld}
use Rattle.scq_queue.proofs.HeldOnce.{none_before, none_held, held_two}
use Rattle.rows_queue.proofs.pair.run.Goals as goal

pub close-closed-requires-clause-held : goal.close-closed-requires-clause-held
close-closed-requires-clause-held g c κs within =
    let queue = c.args.queue in
    let first = c.retire_in_turn-gates.new.first in
    let second = c.retire_in_turn-gates.new.second in
    let values = c.took-got.new.values.items in
    let held = λ (p : PassStanding g.row.B.Denot). p.held in
    let empty : c.pop-2.new.self.items ≡ [] = none_before c.pop-2.new.self.items c.in-Some-pop.first c.in-Some.second _ _
    (ap (λ (ps : List (PassStanding g.row.B.Denot)). ps ++ c.in-Some.second ∷ []) (sym c.in-Some-pop.ensures.items) ∙ sym c.in-Some.ensures.items
    ∙ c.requires.passes) in
    let none : length c.sent-place.new.values.items ≡ 0 = search rules in
    let sender : first.held ≡ [] = c.retire_in_turn-gates.ensures.first.1 ∙ ap held c.tell.ensures.one
    ∙ none_held queue c.sent-place.new.pass c.sent-place.new.values.items c.sent-place.ensures.stack none in
    let taker : second.held ≡ c.took-got.new.pass.held = c.retire_in_turn-gates.ensures.second.1 in
    let all : c.push_reserved-2.new.self.items ≡ first ∷ second ∷ [] = c.push_reserved-2.ensures.items
    ∙ ap (λ (ps : List (PassStanding g.row.B.Denot)). ps ++ second ∷ [])
    (c.push_reserved.ensures.items ∙ ap (λ (ps : List (PassStanding g.row.B.Denot)). ps ++ first ∷ []) empty) in
    subst (λ (ps : List (PassStanding g.row.B.Denot)). AreTheHeld queue ps values) (sym all)
    (held_two queue first second c.took-got.new.pass values c.took-got.ensures.stack sender taker)

pub close-closed-requires-clause-passes : goal.close-closed-requires-clause-passes
close-closed-requires-clause-passes g c κs within =
    let queue = c.args.queue in
    let first = c.retire_in_turn-gates.new.first in
    let second = c.retire_in_turn-gates.new.second in
    let Own = λ (p : PassStanding g.row.B.Denot). p.queue ≡ queue in
    let empty : c.pop-2.new.self.items ≡ [] = none_before c.pop-2.new.self.items c.in-Some-pop.first c.in-Some.second _ _
    (ap (λ (ps : List (PassStanding g.row.B.Denot)). ps ++ c.in-Some.second ∷ []) (sym c.in-Some-pop.ensures.items) ∙ sym c.in-Some.ensures.items
    ∙ c.requires.passes) in
    let sender : first.queue ≡ queue = c.retire_in_turn-gates.ensures.first.0 in
    let taker : second.queue ≡ queue = c.retire_in_turn-gates.ensures.second.0 in
    let all : c.push_reserved-2.new.self.items ≡ first ∷ second ∷ [] = c.push_reserved-2.ensures.items
    ∙ ap (λ (ps : List (PassStanding g.row.B.Denot)). ps ++ second ∷ [])
    (c.push_reserved.ensures.items ∙ ap (λ (ps : List (PassStanding g.row.B.Denot)). ps ++ first ∷ []) empty) in
    subst (All Own) (sym all) (All-cons Own first (second ∷ []) sender (All-cons Own second [] taker (All-nil Own)))
