use Rattle.std.proofs.Common.{ℕ, ◌+◌, ◌≤◌, List}
use Rattle.scq_hist.specs.Exports.{IsFinishedAt, IsTally}
use Rattle.scq_hist.proofs.tallies.finished_tally.Given as goal

abbrev pub invariant-loop-e : goal.invariant-loop-e
invariant-loop-e l = record {
  few : l.tally.ungot ≤ l.fn.tokens.ungot + l.e;
  tally : (opening : List (List ℕ)) → IsTally l.events (IsFinishedAt opening l.events 0 0) l.fn.tokens.ungot l.fn.tokens.claimed_from
      → IsTally l.events (IsFinishedAt opening l.events l.queue l.e) l.tally.ungot l.tally.claimed_from;
}
