use Rattle.scq_core.proofs.Turns.{goes, goes_alone}
use Rattle.scq_core.proofs.laws.calls_go_on.Goals as goal

pub returns : goal.returns
returns c =
    record {
      enabled = λ setup m seat step e. goes setup (m.part seat).hand (m.part seat).spent (m.part seat).phase step e;
      alone = λ setup m seat step turn wakes e. goes_alone setup (m.part seat).hand (m.part seat).spent (m.part seat).phase step turn wakes e;
    }
