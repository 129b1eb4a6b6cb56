use Rattle.std.proofs.Common.{ap, refl, sym, Err}
use Rattle.std.proofs.lemmas.Result.{IfErr-weaker}
use Rattle.scq_judge.proofs.ReadLemmas.{files_more, on_ok}
use Rattle.scq_judge.proofs.SourceLemmas.{line_fault}
use Rattle.scq_judge.proofs.reading.Reading.add_line.Goals as goal

pub returns-clause-read : goal.returns-clause-read
returns-clause-read c = on_ok c.add_line.result _ _ (λ read lines. rw read refl) c.add_line.ensures.read

pub returns-clause-files : goal.returns-clause-files
returns-clause-files c = λ count is all.
    on_ok c.add_line.result _ _ (λ read. files_more count c.args.self.file _ c.args.self.lone c.args.recorded.now _ c.args.text.now is read all)
    c.add_line.ensures.read

pub returns-clause-refused : goal.returns-clause-refused
returns-clause-refused c =
    IfErr-weaker c.add_line.result _ _ (λ fault. line_fault _ _ _ fault (λ l bad lines. rw bad.1 (ap Err (sym bad.0)))) c.add_line.ensures.refused
