-- What each event adds to Head with Threshold, against what an attempt comes to.
use Rattle.std.proofs.Common.{◌≡◌, ◌≢◌, ℕ, ◌+◌, ◌-◌, ◌<◌, ◌≤◌, ◌⊎◌, Bool, true, false, refl, inl, inr, ap, arith}
use Rattle.std.specs.Prelude.{◌==◌}
use Rattle.scq_word.specs.declared.setup.Setup.{Setup}
use Rattle.scq_core.specs.Machine.{Machine}
use Rattle.scq_core.specs.Exports.{updated, spent_of}
use Rattle.scq_core.proofs.UpdatedLemmas.{updated_or}
use Rattle.scq_core.proofs.Steady.{either_way}
use Rattle.scq_law.specs.Exports.{tally, was_got}
use Rattle.scq_law.proofs.Base.Ghosts.{Ghost}
use Rattle.scq_law.proofs.Base.TicketEvents.{TicketEvent, calm, drew, fell, laid, finished, entered, refused, began, died, saw_end, lifted, taken, lowered, emptied, overran, ended_by}
use Rattle.scq_law.proofs.Base.EventFacts.{stance}
use Rattle.scq_law.proofs.Base.EventSteps.{EventStep}
use Rattle.scq_law.proofs.Threshold.FinishedPlaced.{is_finish}
use Rattle.scq_law.proofs.Threshold.Covering.{bit, here_one, there_none, flying}

-- at most so much is added
pub record Adds (before later more : ℕ) : Type 0 where
  pub adds : later ≤ before + more

-- a Threshold that falls by one
falls_exactly : (level : ℕ → ℕ) (q r : ℕ) → 0 < level q → updated level q (level q - 1) r + bit q r ≡ level r
falls_exactly level q r some =
    elim (updated_or level q (level q - 1) r) [
      | inl a ↦ let one = here_one q r a.0 in let same : level r ≡ level q = ap level a.0 in let new = a.1 in omega arith
      | inr a ↦ let none = there_none q r a.0 in let new = a.1 in omega arith
    ]

-- a Head that rises by one
rises_exactly : (head : ℕ → ℕ) (q r h : ℕ) → h ≡ head q → updated head q (h + 1) r ≡ head r + bit q r
rises_exactly head q r h at =
    elim (updated_or head q (h + 1) r) [
      | inl a ↦ let one = here_one q r a.0 in let same : head r ≡ head q = ap head a.0 in let new = a.1 in omega arith
      | inr a ↦ let none = there_none q r a.0 in let new = a.1 in omega arith
    ]

-- what Head and Threshold are with a seat's attempt in flight and kept ticket, before and after
abbrev spend : Machine → ℕ → ℕ → ℕ
spend m k r = flying r (stance m k) + spent_of (m.part k).spent

-- Head and Threshold together rise by what the seat adds
pub spend_event : (c : Setup) (time : ℕ) (g : Ghost) (m : Machine) (k : ℕ) (e : TicketEvent) (n : Machine) → EventStep c time g m k e n
    → ((q : ℕ) → 0 < m.cells.threshold q) → (spent_of (m.part k).spent ≡ 0) ⊎ ((q t : ℕ) (b : Bool) → e ≢ overran q t b) → is_finish e ≡ false → (r : ℕ)
    → Adds (m.cells.head r + m.cells.threshold r) (n.cells.head r + n.cells.threshold r + spend m k r) (tally (was_got r) (ended_by e) + spend n k r)
spend_event c time g m k (calm) n event_step some keeps not r =
    let d = event_step.event_facts in rw (d.stance, d.head, d.threshold, d.kept) (record { adds = omega arith })
spend_event c time g m k (drew q i w t) n event_step some keeps not r =
    let d = event_step.event_facts in
    elim d.proper.was [
      | inl rests ↦ rw (d.stance, d.head, d.threshold, d.kept, rests.rests) (record { adds = omega arith })
      | inr was ↦ rw (d.stance, d.head, d.threshold, d.kept, was) (record { adds = omega arith })
    ]
spend_event c time g m k (fell q i w t found) n event_step some keeps not r =
    let d = event_step.event_facts in
    rw (d.stance, d.head, d.threshold, d.kept, d.proper.was) (record { adds = omega arith })
spend_event c time g m k (laid q i w t) n event_step some keeps not r =
    let d = event_step.event_facts in
    rw (d.stance, d.head, d.threshold, d.kept, d.proper.was) (record { adds = omega arith })
spend_event c time g m k (finished q i w t) n event_step some keeps not r = absurd (cc)
spend_event c time g m k (entered q) n event_step some keeps not r =
    let d = event_step.event_facts in
    rw (d.stance, d.head, d.threshold, d.kept, d.proper.was.rests) (record { adds = omega arith })
spend_event c time g m k (refused q) n event_step some keeps not r =
    let d = event_step.event_facts in
    rw (d.stance, d.head, d.threshold, d.kept, d.proper.was.rests) (record { adds = omega arith })
spend_event c time g m k (began q h) n event_step some keeps not r =
    let d = event_step.event_facts in
    let up = rises_exactly m.cells.head q r h d.proper.at_head in
    rw (d.stance, d.head, d.threshold, d.kept, d.proper.was) (record { adds = omega arith })
spend_event c time g m k (died q h) n event_step some keeps not r =
    let d = event_step.event_facts in
    rw (d.stance, d.head, d.threshold, d.kept, d.proper.was) (record { adds = omega arith })
spend_event c time g m k (saw_end q h) n event_step some keeps not r =
    let d = event_step.event_facts in
    rw (d.stance, d.head, d.threshold, d.kept, d.proper.was) (record { adds = omega arith })
spend_event c time g m k (lifted q h to) n event_step some keeps not r =
    let d = event_step.event_facts in
    rw (d.stance, d.head, d.threshold, d.kept, d.proper.was) (record { adds = omega arith })
spend_event c time g m k (taken q h i w) n event_step some keeps not r =
    let d = event_step.event_facts in
    rw (d.stance, d.head, d.threshold, d.kept, d.proper.was) (record { adds = omega arith })
spend_event c time g m k (lowered q h) n event_step some keeps not r =
    let d = event_step.event_facts in
    let down = falls_exactly m.cells.threshold q r (some q) in
    rw (d.stance, d.head, d.threshold, d.kept, d.proper.was) (record { adds = omega arith })
spend_event c time g m k (emptied q h) n event_step some keeps not r =
    let d = event_step.event_facts in
    let down = falls_exactly m.cells.threshold q r (some q) in
    elim d.proper.was [
      | inl was ↦ rw (d.stance, d.head, d.threshold, d.kept, was) (record { adds = omega arith })
      | inr was ↦ rw (d.stance, d.head, d.threshold, d.kept, was.0) (record { adds = omega arith })
    ]
spend_event c time g m k (overran q t true) n event_step some keeps not r =
    let d = event_step.event_facts in
    let none : spent_of (m.part k).spent ≡ 0 =
    elim keeps [ inl is ↦ is | inr other ↦ absurd (other q t true refl) ] in
    elim d.proper.was [
      | inl rests ↦ rw (d.stance, d.head, d.threshold, d.kept, rests.rests) (record { adds = omega arith })
      | inr was ↦ rw (d.stance, d.head, d.threshold, d.kept, was.2) (record { adds = omega arith })
    ]
spend_event c time g m k (overran q t false) n event_step some keeps not r =
    let d = event_step.event_facts in
    let up = rises_exactly m.cells.head q r t d.proper.at_head in
    let bit_low : bit q r ≤ 1 = either_way (λ (v : ℕ). v ≤ 1) (q == r) 1 0 (omega arith) (omega arith) in
    let none : spent_of (m.part k).spent ≡ 0 =
    elim keeps [ inl is ↦ is | inr other ↦ absurd (other q t false refl) ] in
    rw (d.stance, d.head, d.threshold, d.kept, d.proper.was) (record { adds = omega arith })
