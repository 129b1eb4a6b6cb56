use Rattle.std.proofs.Common.{◌<◌, ◌∙◌, [], length, ap, arith}
use Rattle.std.proofs.lemmas.Result.{IfErr-weaker}
use Rattle.scq_lines.proofs.Cutting.{lines_of-none}
use Rattle.scq_judge.specs.Exports.{after_lines}
use Rattle.scq_judge.proofs.ReadLemmas.{on_ok}
use Rattle.scq_judge.proofs.SourceLemmas.{line_fault}
use Rattle.scq_judge.proofs.reading.Reading.take_last.Goals as goal

pub returns-clause-read : goal.returns-clause-read
returns-clause-read c =
    let some : 0 < length c.args.bytes.now = grind arith in
    on_ok c.add_line.result _ _
    (λ read. ap (after_lines c.args.self.file c.args.self.lone c.args.before c.args.recorded.now) (lines_of-none c.args.bytes.now some c.requires.front) ∙ read [])
    c.add_line.ensures.read

pub returns-clause-refused : goal.returns-clause-refused
returns-clause-refused c =
    let some : 0 < length c.args.bytes.now = grind arith in
    IfErr-weaker c.add_line.result _ _
    (λ fault. line_fault _ _ _ fault
    (λ l bad. ap (after_lines c.args.self.file c.args.self.lone c.args.before c.args.recorded.now) (lines_of-none c.args.bytes.now some c.requires.front) ∙ bad []))
    c.add_line.ensures.refused
