use Rattle.std.proofs.Common.{refl}
use Rattle.scq_service.proofs.commands.text.run_text.Goals as goal

pub returns-clause-ends : goal.returns-clause-ends
returns-clause-ends g c = c.in-Err.ensures.ends c.args.command _ (refl, refl)

pub returns-clause-caused : goal.returns-clause-caused
returns-clause-caused g c = c.in-Err.ensures.caused (g.K.Sink.cause c.args.out.now)
