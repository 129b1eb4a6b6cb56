use Rattle.std.proofs.Common.{List, inl, inr, sym, subst, ◌∙◌, arith}
use Rattle.scq_queue.specs.declared.counts.Counts.{Counts}
use Rattle.scq_c.specs.declared.tally.Tally.{Tally}
use Rattle.scq_c.specs.Exports.{AreWritten}
use Rattle.scq_c.proofs.Somes.{if_some_at}
use Rattle.scq_c.proofs.exports.end_of.Goals as goal
use Rattle.scq_c.proofs.exports.end_of.Goals.{in-Some, in-None}

pub returns : goal.returns
returns c =
    elim c.match-closed.branch [
      | in-Some w ↦
          let is = w.in-Some.is in
          record {
            ended = c.close-ended.ensures.ended;
            last =
                λ one. (
                  w.in-Some.closed,
                  c.close-ended.ensures.same ∙ is,
                  record {
                    closed_ports = if_some_at _ c.close-ended.result.1 w.in-Some.closed c.close-ended.ensures.closed is;
                    counts =
                        let told = if_some_at _ c.close-ended.result.1 w.in-Some.closed c.close-ended.ensures.counts is in
                        subst (λ (l : List Counts). AreWritten l c.args.counts.now c.match-closed.counts) (w.as_slice.ensures.value ∙ told)
                        (subst (λ (l : List Tally). AreWritten w.as_slice.result.now c.args.counts.now l) (sym w.counts-is) w.write_out.ensures);
                  },
                );
            other = λ none. absurd (omega (arith, none, w.last-is));
            known = inr w.last-is;
          }
      | in-None w ↦
          record {
            ended = c.close-ended.ensures.ended;
            last = λ one. absurd (omega (arith, one, w.last-is));
            other = λ none. (c.close-ended.ensures.same ∙ w.in-None.is, w.counts-is);
            known = inl w.last-is;
          }
    ]
