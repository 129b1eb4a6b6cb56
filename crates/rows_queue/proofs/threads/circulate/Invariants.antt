use Rattle.std.proofs.Common.{◌≡◌, []}
use Rattle.scq_band.specs.Exports.{lifted_of}
use Rattle.rows_queue.proofs.threads.circulate.Given as goal

abbrev pub invariant-loop : goal.invariant-loop
invariant-loop l = (l.seat.band ≡ l.band) × (lifted_of l.seat.hand ≡ [])
