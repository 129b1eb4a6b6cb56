use Rattle.std.proofs.Common.{◌∙◌}
use Rattle.scq_service.proofs.worker_report.direct_in.Goals as goal

pub returns-clause-same : goal.returns-clause-same
returns-clause-same c = c.wide.ensures.same ∙ c.direct.ensures
