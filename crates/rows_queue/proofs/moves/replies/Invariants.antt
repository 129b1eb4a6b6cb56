use Rattle.std.proofs.Common.{◌≡◌, [], All}
use Rattle.std.specs.Prelude.{vec_len}
use Rattle.scq_queue.specs.declared.heap_buffer.HeapBuffer.{HeapBuffer}
use Rattle.scq_band.specs.Standing.{Standing}
use Rattle.scq_band.specs.Exports.{lifted_of}
use Rattle.rows_queue.proofs.moves.replies.Given as goal

abbrev pub invariant-loop-text : goal.invariant-loop-text
invariant-loop-text l =
    All (λ (s : Standing HeapBuffer). s.band ≡ l.band) l.seats.items
    × All (λ (s : Standing HeapBuffer). lifted_of s.hand ≡ []) l.seats.items
    × (vec_len l.seats ≡ vec_len l.fn.seats)
