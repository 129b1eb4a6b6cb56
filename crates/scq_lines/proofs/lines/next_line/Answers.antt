use Rattle.std.proofs.Common.{arith}
use Rattle.scq_lines.proofs.Cutting.{lines_of-some, lines_of-none}
use Rattle.scq_lines.proofs.lines.next_line.Goals as goal

pub returns-in-Some-clause-line : goal.returns-in-Some-clause-line
returns-in-Some-clause-line c = lines_of-some c.args.text.now c.in-Some.end c.in-Some.ensures

pub returns-in-None-clause-line : goal.returns-in-None-clause-line
returns-in-None-clause-line c = lines_of-none c.args.text.now (grind arith) c.in-None.ensures
