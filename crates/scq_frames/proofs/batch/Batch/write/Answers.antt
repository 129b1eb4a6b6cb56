-- The bytes are those of the parts, and no part begins behind them.
use Rattle.std.proofs.Common.{◌∙◌, ap, List, ℕ, ◌+◌, ◌++◌, length, drop, arith}
use Rattle.std.proofs.lemmas.Grind.{common_steps}
use Rattle.scq_frames.specs.Exports.{batch_bytes, parts_at}
use Rattle.scq_frames.proofs.BatchLemmas.{ended, parts-of-batch}
use Rattle.scq_frames.proofs.batch.Batch.write.Goals as goal

pub returns : goal.returns
returns c =
    let front = c.as_slice.result.now in
    let behind = drop c.len.result c.mark_end.new.into in
    let whole = ended front (drop (0 + length front) c.args.into.now) c.write_bytes.new.into c.mark_end.new.into c.len.result c.write_bytes.ensures
    (omega (arith, c.len.ensures, c.as_slice.ensures.len)) c.mark_end.ensures.before
    ∙ ap (λ (l : List ℕ). l ++ behind) (c.as_slice.ensures.value ∙ c.self.invariant.whole) in
    record {
      begins = (behind, whole ∙ ap (λ (l : List ℕ). l ++ behind) (ap batch_bytes c.self.view_is));
      parts = ap parts_at whole
          ∙ parts-of-batch (parts_at c.self.inside.bytes.items) behind c.self.invariant.encodable c.mark_end.ensures.ended ∙ c.self.view_is;
      len = grind (arith, common_steps);
    }
