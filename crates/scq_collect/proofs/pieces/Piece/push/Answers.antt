use Rattle.std.proofs.Common.{◌∙◌, sym, ap, List, ℕ, ◌++◌}
use Rattle.scq_collect.specs.Exports.{answer_of_view, reply_line}
use Rattle.scq_collect.proofs.InChunks.{flat-push}
use Rattle.scq_collect.proofs.pieces.Piece.push.Goals as goal

pub returns : goal.returns
returns c = λ answers is.
    let a = answer_of_view c.args.answer.now in
    let line = reply_line c.args.topics.now in
    record {
      text = c.in_ok-push_line.ensures ∙ ap (λ (text : List ℕ). text ++ line a) is.text ∙ sym (flat-push line answers a);
      totals = c.count.ensures answers is.totals;
    }
