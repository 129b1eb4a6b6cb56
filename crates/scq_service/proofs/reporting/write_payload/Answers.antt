use Rattle.std.proofs.Common.{rules}
use Rattle.scq_service.specs.Exports.{limit_line}
use Rattle.scq_service.proofs.Writings.{part-first, written-both}
use Rattle.scq_service.proofs.reporting.write_payload.Goals as goal

pub returns-in_err-write_number : goal.returns-in_err-write_number
returns-in_err-write_number g c =
    record { whole = search rules; part = part-first _ _ _ (limit_line c.args.len c.args.limit) c.write_number.ensures.part; kept = search rules; rose = search rules }

pub returns : goal.returns
returns g c = written-both c.in_ok-write_number.ensures c.write_limit.ensures
