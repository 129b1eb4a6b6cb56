use Rattle.std.proofs.Common.{◌∙◌, ap}
use Rattle.scq_collect.specs.Exports.{members_of, text_of_answers, all_answers}
use Rattle.scq_collect.proofs.Merged.{merged-one-thread}
use Rattle.scq_collect.proofs.pieces.output_in_pieces.Goals as goal

pub returns-clause-text : goal.returns-clause-text
returns-clause-text g c =
    let are = c.in_ok-made.ensures in (
      all_answers are.lists,
      are.joined c.in_ok-pieces.ensures.made,
      c.in_ok-pieces.ensures.text are.lists are.stretches,
    )

pub returns-clause-one_thread : goal.returns-clause-one_thread
returns-clause-one_thread g c = λ size contents some same.
    let topics = c.args.topics.now in
    let text = returns-clause-text g c in
    text.2 ∙ ap (text_of_answers topics) (merged-one-thread topics size contents (members_of c.args.lists.now) text.0 text.1 some same)
