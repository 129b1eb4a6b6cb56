use Rattle.std.proofs.Common.{◌∙◌, sym, ap, List, [], ◌∷◌, ◌++◌, append_assoc, drop, map}
use Rattle.std.proofs.lemmas.List.{map-append}
use Rattle.scq_collect.specs.declared.whole.Whole.{Whole}
use Rattle.scq_collect.specs.Exports.{PartAnswer, answers_of, joined, Answer, answer_of_whole, plain}
use Rattle.scq_collect.proofs.merging.wholes_of.Goals as goal

pub messages-preserved : goal.messages-preserved
messages-preserved c =
    let topics = c.args.topics.now in
    let whole = c.in_ok-whole_of.field-0 in
    let before : List Answer = map answer_of_whole c.messages.wholes.items in
    let rest : List Answer = answers_of topics (plain (drop c.message_end-end.result c.args.spots.now)) in
    record {
      within = c.message_end-end.ensures.within.1;
      all = ap (λ (wholes : List Whole). map answer_of_whole wholes ++ rest) c.in_ok-push.ensures.items
          ∙ ap (λ (answers : List Answer). answers ++ rest) (map-append answer_of_whole c.messages.wholes.items (whole ∷ []))
          ∙ append_assoc before (answer_of_whole whole ∷ []) rest
          ∙ ap (λ (a : Answer). before ++ (a ∷ rest)) c.in_ok-whole_of.ensures.whole
          ∙ ap (λ (messages : List (List PartAnswer)). before ++ map (joined topics) messages) (sym c.message_end-end.ensures.message)
          ∙ c.messages.invariant.all;
    }
