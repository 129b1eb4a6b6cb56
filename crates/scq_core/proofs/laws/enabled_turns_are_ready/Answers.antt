use Rattle.scq_core.proofs.Readiness.{enabled_ready}
use Rattle.scq_core.proofs.laws.enabled_turns_are_ready.Goals as goal

pub returns : goal.returns
returns c =
    record {
      ring = λ setup m seat step turn reach enabled. (enabled_ready setup m seat step turn reach enabled).0;
      ready = λ setup m seat step turn reach enabled. (enabled_ready setup m seat step turn reach enabled).1;
    }
