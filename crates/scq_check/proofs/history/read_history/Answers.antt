-- Each line that is added is one more that is read; the first that isn't is the one at fault.
use Rattle.std.proofs.Common.{Err, ap, subst}
use Rattle.scq_hist.proofs.HandedOn.{same_fault}
use Rattle.scq_lines.specs.Exports.{lines_of}
use Rattle.scq_check.proofs.Reading.{LinesAreRead, read_none, read_more, found_unlawful}
use Rattle.scq_check.proofs.history.read_history.Goals as goal

pub lines-init : goal.lines-init
lines-init c = read_none _ _ _ c.new.ensures.items c.new-2.ensures.items (λ i. tt)

pub returns-in_err-add_line-clause-unlawful : goal.returns-in_err-add_line-clause-unlawful
returns-in_err-add_line-clause-unlawful c line is =
    let lines = lines_of c.args.text.now in
    let history = c.lines.history in
    let read = subst (λ rest. LinesAreRead lines rest history.opening.items history.events.items c.lines.number) c.in-Some.ensures.line c.lines.invariant in
    let h = c.in_err-add_line.ensures.unlawful line (ap Err (same_fault c.from_residual.result c.in_err-add_line.field-0.0 _ c.from_residual.ensures.1 is)) in
    found_unlawful lines c.in-Some.line.now (lines_of c.in-Some.more.now) history.opening.items history.events.items c.lines.number read line h.0 h.1 h.2

pub lines-preserved : goal.lines-preserved
lines-preserved c =
    let lines = lines_of c.args.text.now in
    let history = c.lines.history in
    let read = subst (λ rest. LinesAreRead lines rest history.opening.items history.events.items c.lines.number) c.in-Some.ensures.line c.lines.invariant in
    let h = c.in_ok-add_line.ensures in
    read_more lines c.in-Some.line.now (lines_of c.in-Some.more.now) history.opening.items history.events.items c.lines.number read _ _ h.next h.opening
    h.events h.lawful
