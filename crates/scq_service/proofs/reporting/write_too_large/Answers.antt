use Rattle.std.proofs.Common.{◌++◌, codes, decimal, rules}
use Rattle.scq_service.proofs.Writings.{part-first, written-both}
use Rattle.scq_service.proofs.reporting.write_too_large.Goals as goal

pub returns-in_err-write_about : goal.returns-in_err-write_about
returns-in_err-write_about g c =
    record { whole = search rules; part = part-first _ _ _ (decimal c.args.limit ++ codes " bytes\n") c.write_about.ensures.part; kept = search rules; rose = search rules }

pub returns : goal.returns
returns g c = written-both c.in_ok-write_about.ensures c.write_count.ensures
