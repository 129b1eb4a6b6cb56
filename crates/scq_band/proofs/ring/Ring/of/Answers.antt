use Rattle.std.proofs.Common.{ℕ, ◌∙◌, ap}
use Rattle.scq_word.specs.Exports.{slots_of, mark_of}
use Rattle.scq_band.proofs.ring.Ring.of.Goals as goal

pub returns-clause-ring : goal.returns-clause-ring
returns-clause-ring c =
    record {
      low = c.requires;
      order = c.shape-2.ensures;
      mark = c.none.ensures ∙ ap (λ (o : ℕ). mark_of (slots_of o)) c.shape.ensures;
      limit = c.limit.ensures;
      tail = c.tail_word.ensures.word;
      level = c.reset_level.ensures;
      rows = c.of.ensures.rows;
      columns = c.of.ensures.bits;
    }
