use Rattle.std.proofs.Common.{◌≤◌}
use Rattle.scq_hist.specs.Exports.{IsTally}
use Rattle.scq_check.specs.Exports.{AreTokenTallies, IsTokenBelow}
use Rattle.scq_check.proofs.tokens.token_tallies.Given as goal

abbrev pub invariant-loop-number : goal.invariant-loop-number
invariant-loop-number l = record {
  few : l.tally.ungot ≤ l.number;
  tally : IsTally l.events (IsTokenBelow l.number) l.tally.ungot l.tally.claimed_from;
  tallies : AreTokenTallies l.events l.number l.tallies.items;
}
