use Rattle.std.proofs.Common.{◌≡◌, ◌∙◌, ◌≤◌, sym, ap, subst, List, map, length}
use Rattle.std.specs.List.{All}
use Rattle.std.proofs.lemmas.Result.{IfOk-weaker}
use Rattle.scq_collect.specs.declared.spots.Spot.{Spot}
use Rattle.scq_collect.specs.Exports.{IsJoined, answers_of, without_way, StandInOrder, members_of, position_of_answer, answer_of_whole, answers_to}
use Rattle.scq_collect.specs.Exports.{plain, spot_answer}
use Rattle.scq_collect.proofs.Merged.{merged-exactly, merged-one-thread}
use Rattle.scq_collect.proofs.OneEach.{joined-in-order}
use Rattle.scq_collect.proofs.SpotLaws.{known-spots}
use Rattle.scq_collect.proofs.merging.merge.Goals as goal

pub wholes_of-requires : goal.wholes_of-requires
wholes_of-requires c =
    let spots = c.in_ok-spots.spots.items in
    subst (λ (ss : List Spot). All (λ s. (spot_answer s).topic ≤ length c.args.topics.now) ss) (sym c.as_slice.ensures.value)
    (known-spots (length c.args.topics.now) (members_of c.args.lists.now) spots c.in_ok-spots.ensures c.requires)

pub returns-clause-joined : goal.returns-clause-joined
returns-clause-joined c =
    let topics = c.args.topics.now in
    let are = c.in_ok-spots.ensures in
    IfOk-weaker c.wholes_of.result _ (λ wholes. IsJoined topics (members_of c.args.lists.now) (map answer_of_whole wholes.items))
    (λ wholes e. record {
      all = are.all;
      merged = are.merged;
      wholes_are = e ∙ ap (λ ss. answers_of topics (plain ss)) c.as_slice.ensures.value ∙ ap (answers_of topics) are.are;
    }) c.wholes_of.ensures

pub returns-clause-in_order : goal.returns-clause-in_order
returns-clause-in_order c whole =
    IfOk-weaker c.wholes_of.result _ (λ wholes. StandInOrder position_of_answer (map answer_of_whole wholes.items))
    (λ wholes j. joined-in-order c.args.topics.now (members_of c.args.lists.now) (map answer_of_whole wholes.items) j whole) (returns-clause-joined c)

pub returns-clause-exact : goal.returns-clause-exact
returns-clause-exact c given order same =
    let topics = c.args.topics.now in
    IfOk-weaker c.wholes_of.result _ (λ wholes. map answer_of_whole wholes.items ≡ answers_of topics (map without_way given))
    (λ wholes j. j.wholes_are
    ∙ ap (λ all. answers_of topics (map without_way all)) (merged-exactly (members_of c.args.lists.now) j.all given j.merged order same))
    (returns-clause-joined c)

pub returns-clause-one_thread : goal.returns-clause-one_thread
returns-clause-one_thread c size contents some same =
    IfOk-weaker c.wholes_of.result _ (λ wholes. map answer_of_whole wholes.items ≡ answers_to c.args.topics.now 1 contents)
    (λ wholes j. merged-one-thread c.args.topics.now size contents (members_of c.args.lists.now) (map answer_of_whole wholes.items) j some same)
    (returns-clause-joined c)
