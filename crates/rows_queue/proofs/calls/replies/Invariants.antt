use Rattle.scq_queue.specs.HoldsJust.{HoldsJust}
use Rattle.rows_queue.proofs.calls.replies.Given as goal

abbrev pub invariant-loop-text : goal.invariant-loop-text
invariant-loop-text g l =
    (goal.iterator-loop-text g).can_next l.text-iterator × (goal.iterator-loop-text g).is_finite l.text-iterator × HoldsJust l.queue l.pass l.values.items
