use Rattle.std.proofs.Common.{◌≤◌, ◌∙◌, sym, ap, subst, List, length}
use Rattle.std.specs.List.{All}
use Rattle.std.proofs.lemmas.List.Elements.{All-append}
use Rattle.scq_collect.specs.declared.answered.Answered.{Answered}
use Rattle.scq_collect.specs.Exports.{members_of}
use Rattle.scq_collect.proofs.InChunks.{flat-push}
use Rattle.rows_calls.proofs.answers.push_list.Goals as goal

pub returns : goal.returns
returns c =
    let P : Answered → Type 0 = λ a. a.topic ≤ length c.args.topics.now in
    let lists = c.args.lists.now.items in
    subst (All P) (sym (ap members_of c.in_ok-push.ensures.items ∙ flat-push (λ (list : List Answered). list) lists c.args.list))
    (All-append P (members_of lists) c.args.list c.requires.lists c.requires.list)
