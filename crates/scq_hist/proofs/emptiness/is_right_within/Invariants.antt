use Rattle.std.proofs.Common.{ℕ, ◌+◌, ◌≤◌, List}
use Rattle.scq_hist.specs.Exports.{IsFinishedAt, IsPending, IsCount, IsTally}
use Rattle.scq_hist.proofs.Claims.{NotRightTill}
use Rattle.scq_hist.proofs.emptiness.is_right_within.Given as goal

abbrev pub invariant-loop-i : goal.invariant-loop-i
invariant-loop-i l = record {
  few : l.tally.ungot ≤ l.fn.tokens.ungot + l.i;
  few_gets : l.pending ≤ l.i;
  tally : (opening : List (List ℕ)) → IsTally l.events (IsFinishedAt opening l.events 0 0) l.fn.tokens.ungot l.fn.tokens.claimed_from
      → IsTally l.events (IsFinishedAt opening l.events l.queue l.i) l.tally.ungot l.tally.claimed_from;
  gets : IsCount (IsPending l.events l.queue l.i) l.pending;
  not_yet : (opening : List (List ℕ)) → IsTally l.events (IsFinishedAt opening l.events 0 0) l.fn.tokens.ungot l.fn.tokens.claimed_from
      → NotRightTill opening l.events l.queue l.fn.start l.i;
}
