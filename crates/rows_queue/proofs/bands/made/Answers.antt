use Rattle.std.proofs.Common.{◌≡◌, List, [], length, sym, ◌∙◌, ap, subst}
use Rattle.std.specs.Prelude.{All}
use Rattle.scq_queue.specs.declared.heap_buffer.HeapBuffer.{HeapBuffer}
use Rattle.scq_band.specs.Standing.{Standing}
use Rattle.scq_band.specs.Exports.{lifted_of}
use Rattle.scq_queue.proofs.NewPasses.{as_many_seats}
use Rattle.rows_queue.proofs.NewSeats.{none_lifted}
use Rattle.rows_queue.proofs.bands.made.Goals as goal

pub returns-in-Ok-clause-laid : goal.returns-in-Ok-clause-laid
returns-in-Ok-clause-laid c =
    subst (λ (l : List (Standing HeapBuffer)). All (λ (s : Standing HeapBuffer). lifted_of s.hand ≡ []) l) (sym c.in-Ok.ensures.seats)
    (none_lifted c.in-Ok.made.0 c.args.setup.seats)

pub returns-in-Ok-clause-count : goal.returns-in-Ok-clause-count
returns-in-Ok-clause-count c = c.in-Ok.made.1.ok.0 ∙ ap length c.in-Ok.ensures.seats ∙ as_many_seats c.in-Ok.made.0 c.args.setup.seats
