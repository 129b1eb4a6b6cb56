use Rattle.std.proofs.Common.{◌≡◌, drop}
use Rattle.scq_topics.specs.Exports.{runs, is_space, sum_of}
use Rattle.scq_topics.proofs.SumRun.{run}
use Rattle.scq_topics.proofs.sum.token_sum.Given as goal

abbrev pub invariant-loop-byte : goal.invariant-loop-byte
invariant-loop-byte l = run l.sum l.value l.digits (drop l.byte-index l.payload) ≡ sum_of (runs is_space l.payload)
