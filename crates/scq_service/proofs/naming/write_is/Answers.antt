use Rattle.std.proofs.Common.{rules}
use Rattle.scq_service.specs.Exports.{text_is}
use Rattle.scq_service.proofs.Writings.{part-first, written-both}
use Rattle.scq_service.proofs.naming.write_is.Goals as goal

pub returns-in_err-write_part : goal.returns-in_err-write_part
returns-in_err-write_part g c =
    record { whole = search rules; part = part-first _ _ _ (text_is c.args.text.now) c.write_part.ensures.part; kept = search rules; rose = search rules }

pub returns : goal.returns
returns g c = written-both c.in_ok-write_part.ensures c.write_text.ensures
