use Rattle.std.proofs.Common.{rules}
use Rattle.scq_service.specs.Exports.{cause_line}
use Rattle.scq_service.proofs.Writings.{part-first, written-both}
use Rattle.scq_service.proofs.naming.write_caused.Goals as goal

pub returns-in_err-write_behind : goal.returns-in_err-write_behind
returns-in_err-write_behind g c =
    record { whole = search rules; part = part-first _ _ _ (cause_line c.args.cause) c.write_behind.ensures.part; kept = search rules; rose = search rules }

pub returns : goal.returns
returns g c = written-both c.in_ok-write_behind.ensures c.write_cause.ensures
