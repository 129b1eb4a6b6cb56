use Rattle.std.proofs.Common.{◌∙◌, List, ℕ, subst, decimal}
use Rattle.scq_service.specs.Exports.{WrotePart}
use Rattle.scq_service.proofs.Writings.{part-first, part-second}
use Rattle.scq_service.proofs.worker_report.write_named.Goals as goal

pub returns-in_err-write_all-clause-part : goal.returns-in_err-write_all-clause-part
returns-in_err-write_all-clause-part g c = part-first _ _ c.args.name.now (decimal c.args.number) c.write_all.ensures.part

pub returns-clause-part : goal.returns-clause-part
returns-clause-part g c =
    let P : List ℕ → Type 0 = λ bytes. WrotePart (g.K.Sink.written c.write_all.new.sink) (g.K.Sink.written c.write_all-2.new.sink) bytes in
    part-second _ _ _ c.args.name.now (decimal c.args.number) c.in_ok-write_all.ensures.whole
    (subst P (c.as_bytes.ensures.value ∙ c.format.ensures.text) c.write_all-2.ensures.part)
