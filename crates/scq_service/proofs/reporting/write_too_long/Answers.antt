use Rattle.std.proofs.Common.{rules}
use Rattle.scq_service.specs.Exports.{payload_line}
use Rattle.scq_service.proofs.Writings.{part-first, written-both}
use Rattle.scq_service.proofs.reporting.write_too_long.Goals as goal

pub returns-in_err-write_about : goal.returns-in_err-write_about
returns-in_err-write_about g c =
    record { whole = search rules; part = part-first _ _ _ (payload_line c.args.line c.args.len c.args.limit) c.write_about.ensures.part; kept = search rules; rose = search rules }

pub returns : goal.returns
returns g c = written-both c.in_ok-write_about.ensures c.write_payload.ensures
