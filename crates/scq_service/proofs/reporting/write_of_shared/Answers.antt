use Rattle.std.proofs.Common.{codes, rules}
use Rattle.scq_service.specs.Exports.{place_line}
use Rattle.scq_service.proofs.Writings.{part-first, written-both}
use Rattle.scq_service.proofs.reporting.write_of_shared.Goals as goal

pub returns-in_err-write_shared : goal.returns-in_err-write_shared
returns-in_err-write_shared g c =
    record { whole = search rules; part = part-first _ _ _ (place_line c.args.other_file c.args.other_line (codes "\n")) c.write_shared.ensures.part; kept = search rules; rose = search rules }

pub returns : goal.returns
returns g c = written-both c.in_ok-write_shared.ensures c.write_of_place.ensures
