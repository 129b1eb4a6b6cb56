-- The bytes are those of the one part, and no part begins behind them.
use Rattle.std.proofs.Common.{◌∙◌, sym, ap, ℕ, ◌+◌, ◌++◌, ◌∷◌, [], length, drop, arith}
use Rattle.std.proofs.lemmas.Grind.{common_steps}
use Rattle.scq_frames.specs.Exports.{Part, message_bytes, part_of_view, parts_at}
use Rattle.scq_frames.proofs.BatchLemmas.{encodable-view, ended, length-message_bytes, parts-of-one}
use Rattle.scq_frames.proofs.encoded.encode_alone.Goals as goal

pub returns : goal.returns
returns c =
    let v = c.view_of-view.result in
    let at : ℕ = 24 + length v.payload.now in
    let whole = ended (message_bytes (part_of_view v)) (drop at c.args.into.now) c.write_part.new.into c.mark_end.new.into at c.write_part.ensures
    (sym (length-message_bytes (part_of_view v))) c.mark_end.ensures.before in
    let fits = encodable-view c.args.size c.args.message.now c.args.part v c.view_of-view.ensures (omega arith) (omega arith) (omega arith) (omega arith)
    c.requires.short c.requires.numbered in
    record {
      begins = (drop at c.mark_end.new.into, whole ∙ ap (λ (p : Part). message_bytes p ++ drop at c.mark_end.new.into) c.view_of-view.ensures);
      parts = ap parts_at whole ∙ parts-of-one (part_of_view v) (drop at c.mark_end.new.into) fits c.mark_end.ensures.ended
          ∙ ap (λ (p : Part). p ∷ []) c.view_of-view.ensures;
      len = grind (arith, common_steps);
    }
