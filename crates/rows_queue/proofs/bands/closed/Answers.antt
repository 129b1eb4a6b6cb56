use Rattle.std.proofs.Common.{ℕ, List, map, subst, sym}
use Rattle.scq_queue.specs.declared.heap_buffer.HeapBuffer.{HeapBuffer}
use Rattle.scq_queue.specs.contracts.heap_buffer.HeapBufferBuffer.TheImpl as buffer
use Rattle.scq_band.specs.Exports.{AreTheLifted}
use Rattle.rows_queue.proofs.NoneLent.{none_out}
use Rattle.rows_queue.proofs.bands.closed.Goals as goal

pub close-requires-clause-out : goal.close-requires-clause-out
close-requires-clause-out c κs =
    let Same = buffer.ghosts.IsSameBuffer in
    let pair : ℕ × HeapBuffer → ℕ × HeapBuffer = λ o. o in
    subst (λ (out : List (ℕ × HeapBuffer)). AreTheLifted Same c.args.band c.args.seats.items (map pair out)) (sym c.new-none.ensures.items)
    (none_out Same c.args.band c.args.seats.items c.requires.laid)
