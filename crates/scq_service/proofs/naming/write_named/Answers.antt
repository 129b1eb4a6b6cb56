use Rattle.std.proofs.Common.{sym, rules}
use Rattle.scq_service.specs.Exports.{text_is}
use Rattle.scq_service.proofs.Writings.{part-first, same-line, written-both}
use Rattle.scq_service.proofs.naming.write_named.Goals as goal

pub returns-in_err-write_about : goal.returns-in_err-write_about
returns-in_err-write_about g c =
    record { whole = search rules; part = part-first _ _ _ (text_is c.args.name.now) c.write_about.ensures.part; kept = search rules; rose = search rules }

pub returns : goal.returns
returns g c = written-both c.in_ok-write_about.ensures (same-line text_is (sym c.as_bytes.ensures.value) c.write_text.ensures)
