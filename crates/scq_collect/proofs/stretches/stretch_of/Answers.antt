-- Each step adds the lines for the parts of the next span, up to the last.
use Rattle.std.proofs.Common.{subst, sym, arith, ◌++◌, ◌≤◌, List, length}
use Rattle.std.specs.Prelude.{IsTrue, flat_map}
use Rattle.std.specs.List.{All}
use Rattle.std.proofs.lemmas.List.{take_all}
use Rattle.scq_collect.specs.declared.spans.Span.{Span}
use Rattle.scq_collect.specs.declared.spots.Spot.{Spot}
use Rattle.scq_collect.specs.Exports.{BeginsMessage, answers_of, IsMadeOf, IsStretchOf, plain, spot_answer}
use Rattle.scq_collect.proofs.Stretched.{made-more, taken-known}
use Rattle.scq_collect.proofs.stretches.stretch_of.Goals as goal

pub add-requires-clause-known : goal.add-requires-clause-known
add-requires-clause-known c =
    let given = c.requires.known in
    let spots = c.take_spots.new.spots.items in
    subst (λ (ss : List Spot). All (λ s. (spot_answer s).topic ≤ length c.args.given.now.topics.now) ss) (sym c.as_slice.ensures.value)
    (taken-known (length c.args.given.now.topics.now) given.0 _ spots (c.in_ok-take_spots.ensures given.0 given.1) given.2)

pub add-requires-clause-room : goal.add-requires-clause-room
add-requires-clause-room c =
    let given = c.requires.known in
    let made = c.each.invariant given.0 given.1 in
    (flat_map (answers_of c.args.given.now.topics.now) made.parts, made.made)

pub each-preserved : goal.each-preserved
each-preserved c = λ answers laid.
    let topics = c.args.given.now.topics.now in
    let now = c.add.new.self in
    made-more topics answers c.args.spans.now c.each.span-index _ c.each.stretch now c.take_spots.new.spots.items c.each-test.true
    (c.each.invariant answers laid) (c.in_ok-take_spots.ensures answers laid)
    (λ own is. subst (λ (ss : List Spot). IsStretchOf topics (own ++ answers_of topics (plain ss)) now) c.as_slice.ensures.value
    (c.in_ok-add.ensures.added own is))
    (subst (λ (ss : List Spot). IsTrue now.whole → IsTrue c.each.stretch.whole × BeginsMessage (plain ss)) c.as_slice.ensures.value c.in_ok-add.ensures.whole)

pub returns : goal.returns
returns c = λ answers laid.
    subst (λ (ss : List Span). IsMadeOf c.args.given.now.topics.now answers ss c.each.stretch)
    (take_all c.each.span-index c.args.spans.now (omega (arith, c.each-test.false))) (c.each.invariant answers laid)
