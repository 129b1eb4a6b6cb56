-- What comes back of the workers once their queue is closed.
use Rattle.std.specs.Prelude.{◌≡◌, List, Option, map}
use Rattle.scq_block.specs.declared.frame.Frame.{Frame}
use Rattle.scq_queue.specs.Exports.{PassStanding, counts_of, lists_of, was_told}
use Rattle.scq_files.specs.declared.desk.Desk.{Desk}
use Rattle.scq_desk.specs.declared.seat.Seat.{Seat}
use Rattle.scq_desk.specs.declared.winding.WoundUp.{WoundUp}

-- the lists and passes of the workers at these desks, in their order, with the counts of each pass,
-- and whether it was told that all had retired
pub record HaveBrought {W L S : Type 0} (list_of : W → L) (pass_of : W → PassStanding Frame)
    (desks : List (Desk (Seat W Frame (Option Frame)) S)) (end : WoundUp L S) : Type 0 where
  pub lists : end.lists.items ≡ map (λ d. list_of d.worker.worker) desks
  pub passes : end.passes.value.items ≡ map (λ d. pass_of d.worker.worker) desks
  pub closing : end.closing.value.items ≡ map (λ d. pass_of d.worker.worker) desks
  pub counts : end.counts.items ≡ map (λ p. counts_of (lists_of p)) end.passes.value.items
  pub saw : end.saw.items ≡ map (λ p. was_told p.gate) end.closing.value.items
