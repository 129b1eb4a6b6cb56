use Rattle.std.proofs.Common.{◌++◌, codes, decimal, rules}
use Rattle.scq_service.proofs.Writings.{part-first, written-both}
use Rattle.scq_service.proofs.reporting.write_limit.Goals as goal

pub returns-in_err-write_count : goal.returns-in_err-write_count
returns-in_err-write_count g c =
    record { whole = search rules; part = part-first _ _ _ (decimal c.args.limit ++ codes "\n") c.write_count.ensures.part; kept = search rules; rose = search rules }

pub returns : goal.returns
returns g c = written-both c.in_ok-write_count.ensures c.write_number.ensures
