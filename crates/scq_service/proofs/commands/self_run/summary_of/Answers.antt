use Rattle.std.proofs.Common.{◌≡◌, ◌∙◌, ◌^◌, sym, ap, subst, arith, List, ◌∷◌, [], length, map}
use Rattle.std.specs.List.Sorted.{IsPermutation}
use Rattle.scq_topics.specs.declared.kind.Kind.{Kind}
use Rattle.scq_collect.specs.declared.answered.Answered.{Answered}
use Rattle.scq_collect.specs.Exports.{messages_to, part_answers, without_way, members_of, answer_of_whole, answers_to}
use Rattle.scq_self.specs.Exports.{generated, self_topics}
use Rattle.scq_service.proofs.Merging.{merged-known}
use Rattle.scq_service.proofs.commands.self_run.summary_of.Goals as goal

pub merge-requires : goal.merge-requires
merge-requires c = rw c.as_slice.ensures.value c.requires

pub summary_text-requires : goal.summary_text-requires
summary_text-requires c =
    rw c.as_slice-2.ensures.value
    (merged-known c.args.topics.now (length c.args.topics.now) (members_of c.as_slice.result.now) c.in_ok-wholes.wholes.items
    (rw c.as_slice.ensures.value c.requires) c.in_ok-wholes.ensures.joined)

pub returns : goal.returns
returns c = λ seed topics same.
    let file = generated seed c.args.lines in
    let is : c.as_slice.result.now ≡ c.args.worked.now.answered.items = c.as_slice.ensures.value in
    let all : IsPermutation (map without_way (members_of c.as_slice.result.now)) (part_answers self_topics (2 ^ 16) (messages_to self_topics 1 (file ∷ []))) =
    subst (λ (ls : List (List Answered)).
    IsPermutation (map without_way (members_of ls)) (part_answers self_topics (2 ^ 16) (messages_to self_topics 1 (file ∷ [])))) (sym is) same in
    let here : IsPermutation (map without_way (members_of c.as_slice.result.now))
    (part_answers c.args.topics.now (2 ^ 16) (messages_to c.args.topics.now 1 (file ∷ []))) =
    subst (λ (ts : List (List _ × Kind)).
    IsPermutation (map without_way (members_of c.as_slice.result.now)) (part_answers ts (2 ^ 16) (messages_to ts 1 (file ∷ [])))) (sym topics) all in
    let answers : map answer_of_whole c.in_ok-wholes.wholes.items ≡ answers_to c.args.topics.now 1 (file ∷ []) =
    c.in_ok-wholes.ensures.one_thread (2 ^ 16) (file ∷ []) (omega arith) here in
    c.summary_text.ensures.of_self seed topics
    (ap (map answer_of_whole) c.as_slice-2.ensures.value ∙ answers ∙ ap (λ (ts : List (List _ × Kind)). answers_to ts 1 (file ∷ [])) topics)
