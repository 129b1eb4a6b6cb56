use Rattle.std.proofs.Common.{arith, refl}
use Rattle.scq_passes.proofs.PassLemmas.{taken-nothing}
use Rattle.scq_worker.proofs.WorkerSteps.{answered-nothing}
use Rattle.scq_worker.proofs.worker.Worker.take_behind.Goals as goal
use Rattle.scq_worker.proofs.worker.Worker.take_behind.Goals.{then-job-gt0+in_ok-take_one, else-job-gt0}

pub returns-clause-took : goal.returns-clause-took
returns-clause-took g c =
    elim c.if-job-gt0.branch [
      | then-job-gt0+in_ok-take_one w ↦
          let its = w.in_ok-take_one.ensures in
          rw w.self-is (record { taken = its.taken; gates = its.only.gates; vain = omega (arith, its.vain); answered = its.answered })
      | else-job-gt0 w ↦
          let p = c.args.self.now in
          rw w.self-is
          (record {
            taken = taken-nothing p.pass;
            gates = refl;
            vain = omega arith;
            answered = λ fed. answered-nothing c.args.job.now.topics p.pass p.members;
          })
    ]
