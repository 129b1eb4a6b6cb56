use Rattle.std.proofs.Common.{◌≤◌}
use Rattle.scq_hist.proofs.Tokens.{TalliesTokens}
use Rattle.scq_check.proofs.queues.opening_tally.Given as goal

abbrev pub invariant-loop-e : goal.invariant-loop-e
invariant-loop-e l = record { few : l.got ≤ l.e; tallies : TalliesTokens l.opening l.events l.e l.got l.claimed_from }
