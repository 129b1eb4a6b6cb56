use Rattle.std.proofs.Common.{codes, rules}
use Rattle.scq_service.proofs.Writings.{part-first, written-both}
use Rattle.scq_service.proofs.naming.write_ended.Goals as goal

pub returns-in_err-write_shown : goal.returns-in_err-write_shown
returns-in_err-write_shown g c =
    record { whole = search rules; part = part-first _ _ _ (codes "\n") c.write_shown.ensures.part; kept = search rules; rose = search rules }

pub returns : goal.returns
returns g c = written-both c.in_ok-write_shown.ensures c.write_part.ensures
