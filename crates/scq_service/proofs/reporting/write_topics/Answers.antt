use Rattle.scq_service.specs.Exports.{topics_line}
use Rattle.scq_service.proofs.Writings.{same-line}
use Rattle.scq_service.proofs.reporting.write_topics.Goals as goal

pub returns-in-TooMany : goal.returns-in-TooMany
returns-in-TooMany g c = same-line topics_line c.in-TooMany.is c.write_entry.ensures

pub returns-in-BadName : goal.returns-in-BadName
returns-in-BadName g c = same-line topics_line c.in-BadName.is c.write_entry-in-BadName.ensures

pub returns-in-BadKind : goal.returns-in-BadKind
returns-in-BadKind g c = same-line topics_line c.in-BadKind.is c.write_entry-in-BadKind.ensures

pub returns-in-Twice : goal.returns-in-Twice
returns-in-Twice g c = same-line topics_line c.in-Twice.is c.write_entry-in-Twice.ensures
