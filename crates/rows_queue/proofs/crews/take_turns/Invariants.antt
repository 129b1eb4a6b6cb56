use Rattle.std.proofs.Common.{◌≡◌}
use Rattle.rows_queue.proofs.crews.take_turns.Given as goal

abbrev pub invariant-loop : goal.invariant-loop
invariant-loop g l = (l.stand.crew ≡ l.crew) × (l.stand.worker ≡ l.initial.stand.worker)
