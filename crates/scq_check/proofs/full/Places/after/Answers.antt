use Rattle.scq_check.proofs.FullLemmas.{places_more}
use Rattle.scq_check.proofs.full.Places.after.Goals as goal

pub returns : goal.returns
returns c =
    places_more c.args.room c.args.opening.now c.args.events.now c.args.queue c.args.e c.args.self _ _ _ _ _
    c.takes.ensures c.frees.ensures c.fills.ensures c.empties.ensures
    c.counted.ensures.value c.counted-2.ensures.value c.counted-3.ensures.value c.counted-4.ensures.value
    c.full_till_now.ensures.used_up c.full_till_now.ensures.left c.requires.before
