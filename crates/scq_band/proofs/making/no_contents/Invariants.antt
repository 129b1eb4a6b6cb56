use Rattle.std.proofs.Common.{◌≡◌}
use Rattle.std.specs.Prelude.{vec_len}
use Rattle.scq_band.proofs.making.no_contents.Given as goal

abbrev pub invariant-loop : goal.invariant-loop
invariant-loop l = vec_len l.contents ≡ l.counter
