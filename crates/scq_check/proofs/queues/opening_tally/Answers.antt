use Rattle.std.proofs.Common.{arith, ◌∙◌}
use Rattle.scq_hist.proofs.Tokens.{tokens_at, tokens_more, tokens_same, tokens_rest, tokens_tally}
use Rattle.scq_check.proofs.queues.opening_tally.Goals as goal
use Rattle.scq_check.proofs.queues.opening_tally.Goals.{in-None, in-Some}

pub loop-e-preserved : goal.loop-e-preserved
loop-e-preserved c = elim c.match-token_got_at.branch [
  | in-None w ↦ record {
    few = (let g = w.got-is in let few = c.loop-e.invariant.few in omega arith);
    tallies = tokens_at _ _ _ _ _ _ _ w.got-is w.claimed_from-is (tokens_same _ _ _ _ _ w.in-None.ensures c.loop-e.invariant.tallies);
  }
  | in-Some w ↦ record {
    few = (let g = w.got-is in let few = c.loop-e.invariant.few in omega arith);
    tallies = tokens_at _ _ _ _ _ _ _ w.got-is (w.claimed_from-is ∙ w.max-claimed_from.ensures)
        (tokens_more _ _ _ _ _ _ w.in-Some.ensures c.loop-e.invariant.tallies);
  }
]

pub overflow_sub-result : goal.overflow_sub-result
overflow_sub-result c = (tokens_rest _ _ _ _ _ c.requires.lawful c.loop-e-test.false c.loop-e.invariant.tallies).fits

pub returns-clause-tally : goal.returns-clause-tally
returns-clause-tally c = tokens_tally _ _ _ _ _ c.requires.lawful c.loop-e-test.false c.loop-e.invariant.tallies
