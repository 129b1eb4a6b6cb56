-- Where a dequeue decides that its ring is empty, no finished place is at or past Head.
use Rattle.std.proofs.Common.{◌≡◌, ℕ, false, ◌<◌, ◌≤◌, inl, inr, arith}
use Rattle.std.proofs.lemmas.Bool.{cases_lt}
use Rattle.scq_word.specs.declared.setup.Setup.{Setup}
use Rattle.scq_core.specs.Machine.{Machine}
use Rattle.scq_core.specs.Exports.{zero_level, gave_up}
use Rattle.scq_law.specs.Exports.{IsFinished}
use Rattle.scq_law.proofs.Base.Ghosts.{Ghost}
use Rattle.scq_law.proofs.Base.TicketEvents.{TicketEvent, refused, saw_end, emptied}
use Rattle.scq_law.proofs.Base.EventFacts.{stance}
use Rattle.scq_law.proofs.Window.FailCauses.{placement}
use Rattle.scq_law.proofs.Base.Traces.{Trace}
use Rattle.scq_law.proofs.Base.EventSteps.{EventStep}
use Rattle.scq_law.proofs.Threshold.FinishedPlaced.{finished_placed}
use Rattle.scq_law.proofs.Threshold.Covering.{covers}

-- a deciding event of a ring: a dequeue is refused at once, one sees that nothing is behind its ticket, or one that would
-- go on finds Threshold used up
pub data DecidesEmpty (m : Machine) (k : ℕ) : TicketEvent → ℕ → Type 0 where
  by_refusal : (r : ℕ) → DecidesEmpty m k (refused r) r
  by_end : (r h : ℕ) → DecidesEmpty m k (saw_end r h) r
  by_level : (r h : ℕ) → stance m k ≡ gave_up r h false → DecidesEmpty m k (emptied r h) r

-- where Threshold is at most 0
low_level : (c : Setup) (time : ℕ) (g : Ghost) (m : Machine) → Trace c time g m → (r : ℕ) → m.cells.threshold r ≤ zero_level → (p : ℕ) → IsFinished c m r p
    → p < m.cells.head r
low_level c time g m trace r low p fin =
    elim (cases_lt p (m.cells.head r)) [
      | inl less ↦ less
      | inr high ↦ let level = (covers c time g m trace).covers r p fin high in absurd (omega arith)
    ]

pub decides : (c : Setup) (time : ℕ) (g : Ghost) (m : Machine) (k : ℕ) (e : TicketEvent) (n : Machine) → Trace c time g m → EventStep c time g m k e n
    → (r : ℕ) → DecidesEmpty m k e r → (p : ℕ) → IsFinished c m r p → p < m.cells.head r
decides c time g m k e n trace event_step q (by_refusal r) p fin =
    let level = event_step.event_facts.proper.level in low_level c time g m trace r (omega arith) p fin
decides c time g m k e n trace event_step q (by_end r h) p fin =
    let event_facts = event_step.event_facts.proper in
    let drawn = event_step.base.drawn in
    let tail = event_facts.low in
    let over : h < m.cells.head r =
    elim (cases_lt h (m.cells.head r)) [
      | inl less ↦ less
      | inr high ↦ let is = event_facts.dead in let not = drawn.heads r h high in absurd (cc)
    ] in
    let there = placement g r p ((finished_placed c time g m trace).placed r p fin) in
    let below : p < m.cells.tail r =
    elim (cases_lt p (m.cells.tail r)) [
      | inl less ↦ less
      | inr high ↦ let is = there.is in let not = drawn.tails r p high in absurd (cc)
    ] in
    omega arith
decides c time g m k e n trace event_step q (by_level r h was) p fin =
    elim event_step.event_facts.proper.was [
      | inl left ↦ absurd (cc)
      | inr low ↦ low_level c time g m trace r low.1 p fin
    ]
