use Rattle.std.proofs.Common.{◌∙◌, sym, rules}
use Rattle.scq_service.proofs.Writings.{part-first, same-line, written-both}
use Rattle.scq_service.proofs.reporting.write_count.Goals as goal

pub returns-in_err-write_part : goal.returns-in_err-write_part
returns-in_err-write_part g c =
    record { whole = search rules; part = part-first _ _ _ c.args.what.now (same-line (λ bytes. bytes) (sym (c.as_bytes.ensures.value ∙ c.format.ensures.text)) c.write_part.ensures).part; kept = search rules; rose = search rules }

pub returns : goal.returns
returns g c = written-both (same-line (λ bytes. bytes) (sym (c.as_bytes.ensures.value ∙ c.format.ensures.text)) c.in_ok-write_part.ensures) c.write_part-2.ensures
