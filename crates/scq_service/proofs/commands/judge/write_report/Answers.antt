use Rattle.std.proofs.Common.{◌≡◌, inl, inr, refl, subst, ℕ, List}
use Rattle.scq_service.specs.Exports.{written_with, WrotePart}
use Rattle.scq_service.proofs.commands.judge.write_report.Goals as goal

pub returns-in-Ok : goal.returns-in-Ok
returns-in-Ok g c =
    let W : List ℕ → Type 0 = λ text. g.K.Sink.written c.write_all.new.sink ≡ written_with (g.K.Sink.written c.args.out.now) text in
    inl (subst W c.bytes.ensures c.in-Ok.ensures.whole, c.in-Ok.ensures.kept, c.end_of_report.ensures)

pub returns-in-Err : goal.returns-in-Err
returns-in-Err g c =
    let W : List ℕ → Type 0 = λ text. WrotePart (g.K.Sink.written c.args.out.now) (g.K.Sink.written c.write_all.new.sink) text in
    inr (refl, c.in-Err.ensures.rose, subst W c.bytes.ensures c.in-Err.ensures.part)
