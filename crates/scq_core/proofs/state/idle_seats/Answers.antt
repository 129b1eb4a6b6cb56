use Rattle.std.proofs.lemmas.List.{replicate_more}
use Rattle.scq_core.specs.Exports.{idle_part}
use Rattle.scq_core.proofs.state.idle_seats.Goals as goal

pub loop-preserved : goal.loop-preserved
loop-preserved c = let more = replicate_more c.loop.counter idle_part in cc (c.in_ok-push.ensures.items)
