use Rattle.scq_judge.proofs.judging.judge_lawful.Goals as goal

pub returns-clause-reported : goal.returns-clause-reported
returns-clause-reported c = record {
  lawful = c.requires;
  report = c.in_ok-report.report;
  is_report = c.in_ok-report.ensures.report;
  said = c.in_ok-text.ensures;
  found = c.worst.ensures;
}
