use Rattle.std.proofs.Common.{map, string_bytes, rules}
use Rattle.scq_service.specs.Exports.{caused_lines}
use Rattle.scq_service.proofs.Writings.{part-first, written-both}
use Rattle.scq_service.proofs.naming.report_named.Goals as goal

pub returns-in_err-write_fault : goal.returns-in_err-write_fault
returns-in_err-write_fault g c =
    record { whole = search rules; part = part-first _ _ _ (caused_lines c.args.run_alone (map string_bytes c.args.words.now) (map string_bytes c.args.names.now) c.args.cause c.args.fault.now) c.write_fault.ensures.part; kept = search rules; rose = search rules }

pub returns : goal.returns
returns g c = written-both c.in_ok-write_fault.ensures c.write_caused.ensures
