use Rattle.scq_check.specs.Exports.{IsPuts}
use Rattle.scq_check.proofs.puts.Puts.new.Given as goal

abbrev pub invariant-loop-e : goal.invariant-loop-e
invariant-loop-e l = IsPuts l.events l.e l.puts
