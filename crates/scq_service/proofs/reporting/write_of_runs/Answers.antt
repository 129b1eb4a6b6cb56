use Rattle.std.proofs.Common.{codes, rules}
use Rattle.scq_service.specs.Exports.{run_line}
use Rattle.scq_service.proofs.Writings.{part-first, written-both}
use Rattle.scq_service.proofs.reporting.write_of_runs.Goals as goal

pub returns-in_err-write_run : goal.returns-in_err-write_run
returns-in_err-write_run g c =
    record { whole = search rules; part = part-first _ _ _ (run_line c.args.other_file c.args.other_run (codes "\n")) c.write_run.ensures.part; kept = search rules; rose = search rules }

pub returns : goal.returns
returns g c = written-both c.in_ok-write_run.ensures c.write_run-2.ensures
