use Rattle.std.proofs.Common.{◌<◌, length, arith}
use Rattle.std.proofs.lemmas.Option.{slice_get-get_or}
use Rattle.scq_judge.proofs.OrderTextLemmas.{got_in}
use Rattle.scq_judge.proofs.order_text.add_calls.Goals as goal

pub add_call-requires-clause-ends : goal.add_call-requires-clause-ends
add_call-requires-clause-ends c =
    let lt : c.loop-e.e-index < length c.args.ends.now = omega arith in
    c.requires.ends _ (got_in c.args.ends.now c.loop-e.e-index _ (slice_get-get_or c.args.ends.now c.loop-e.e-index 0 lt))
