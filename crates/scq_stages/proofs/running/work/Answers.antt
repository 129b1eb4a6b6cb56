use Rattle.std.proofs.Common.{[]}
use Rattle.scq_files.specs.Exports.{all_given}
use Rattle.scq_passes.proofs.Results.{err-then}
use Rattle.scq_stages.proofs.Runs.{on-then}
use Rattle.scq_stages.proofs.running.work.Goals as goal

pub returns-clause-done : goal.returns-clause-done
returns-clause-done g c =
    on-then c.empty_first.result (λ its work. its (all_given c.read_files.new.files) (c.in_ok-read_files.ensures.handled.work [] work)) c.empty_first.ensures.done

pub returns-clause-left : goal.returns-clause-left
returns-clause-left g c =
    let was = c.args.worker.now in
    let mid = c.read_files.new.handler in
    err-then c.empty_first.result _ _
    (λ l its work. its (all_given c.read_files.new.files) (c.in_ok-read_files.ensures.handled.work [] work)) c.empty_first.ensures.left
