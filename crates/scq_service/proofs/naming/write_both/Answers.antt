use Rattle.std.proofs.Common.{map, string_bytes, rules}
use Rattle.scq_service.specs.Exports.{name_line}
use Rattle.scq_service.proofs.Writings.{part-first, written-both}
use Rattle.scq_service.proofs.naming.write_both.Goals as goal

pub returns-in_err-write_name : goal.returns-in_err-write_name
returns-in_err-write_name g c =
    record { whole = search rules; part = part-first _ _ _ (name_line (map string_bytes c.args.names.now) c.args.other_file) c.write_name.ensures.part; kept = search rules; rose = search rules }

pub returns : goal.returns
returns g c = written-both c.in_ok-write_name.ensures c.write_name-2.ensures
