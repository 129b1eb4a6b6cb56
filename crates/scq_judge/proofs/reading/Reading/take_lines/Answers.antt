use Rattle.std.proofs.Common.{◌∙◌, refl}
use Rattle.scq_hist.proofs.HandedOn.{handed_on}
use Rattle.scq_judge.proofs.ReadLemmas.{taken_more, taken_few, refused_more, refused_long}
use Rattle.scq_judge.proofs.SourceLemmas.{line_fault}
use Rattle.scq_judge.proofs.reading.Reading.take_lines.Goals as goal

pub lines-preserved : goal.lines-preserved
lines-preserved c = record {
  few = taken_few _ _ _ _ c.in-Some.ensures c.lines.invariant.few;
  taken = λ more. c.lines.invariant.taken more ∙ taken_more _ _ _ _ _ _ _ c.in-Some.ensures c.in_ok-add_line-in-Some.ensures.read more;
  files = λ count is all. c.in_ok-add_line-in-Some.ensures.files count is (c.lines.invariant.files count is all);
}

pub returns-in_err-add_line-in-Some-clause-refused : goal.returns-in_err-add_line-in-Some-clause-refused
returns-in_err-add_line-in-Some-clause-refused c =
    handed_on c.from_residual.result c.in_err-add_line-in-Some.field-0.0 _ c.from_residual.ensures.1
    (line_fault _ _ _ _ (λ l bad more. c.lines.invariant.taken more ∙ refused_more _ _ _ _ _ _ _ c.in-Some.ensures bad more)
    c.in_err-add_line-in-Some.ensures.refused)

pub returns-then-rest-gt-MOST_LINE-clause-refused : goal.returns-then-rest-gt-MOST_LINE-clause-refused
returns-then-rest-gt-MOST_LINE-clause-refused c =
    (refl, λ more. c.lines.invariant.taken more ∙ refused_long _ _ _ _ _ c.if-rest-gt-MOST_LINE.true c.in-None.ensures more)
