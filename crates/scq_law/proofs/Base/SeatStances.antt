-- What a seat has by its stance, and that the other seats' stances stay.
use Rattle.std.proofs.Common.{◌≡◌, ◌≢◌, ℕ, ◌<◌, List, ap}
use Rattle.scq_word.specs.declared.setup.Setup.{Setup}
use Rattle.scq_word.specs.Exports.{n_of}
use Rattle.scq_core.specs.declared.phase.Phase.{Phase}
use Rattle.scq_core.specs.declared.phase.Phase.TheVariants.{Idle, AtE1, AtE2, AtE3, AtE4, AtE5, AtE6, AtD1, AtD2, AtD3, AtD4, AtD5, AtD6, AtD7, AtD8, AtD9, AtD10}
use Rattle.scq_core.specs.Exports.{Cells, SeatPart, Offers, Drawn, Busy, Stance, resting, drawing, putting, landed, asking, seeking, trying, gave_up}
use Rattle.scq_core.specs.Exports.{stance_of}
use Rattle.scq_core.specs.Machine.{Machine}
use Rattle.scq_law.proofs.Base.Ghosts.{Ghost}
use Rattle.scq_law.proofs.Base.TicketEvents.{TicketEvent}
use Rattle.scq_law.proofs.Base.EventFacts.{stance, EventFacts}
use Rattle.scq_law.proofs.Base.Based.{IsBased}

abbrev pub HasInStance : Setup → Cells → List ℕ → Stance → Type 0
HasInStance c m hand resting = Unit {0}
HasInStance c m hand (drawing r i w) = Offers c hand r i
HasInStance c m hand (putting r i w t) = Offers c hand r i × Drawn c (m.tail r) t
HasInStance c m hand (landed r i w t) = (r < c.rings) × Drawn c (m.tail r) t × (i < n_of c.order)
HasInStance c m hand (asking r) = r < c.rings
HasInStance c m hand (seeking r) = r < c.rings
HasInStance c m hand (trying r h) = (r < c.rings) × Drawn c (m.head r) h
HasInStance c m hand (gave_up r h leaves) = (r < c.rings) × Drawn c (m.head r) h

pub busy_has : (c : Setup) (m : Cells) (hand : List ℕ) (phase : Phase) → Busy c m hand phase → HasInStance c m hand (stance_of phase)
busy_has c m hand Idle busy = tt
busy_has c m hand (AtE1 r i w l) busy = busy.0
busy_has c m hand (AtE2 r i w t l) busy = (busy.0, busy.1)
busy_has c m hand (AtE3 r i w t e) busy = (busy.0, busy.1)
busy_has c m hand (AtE4 r i w t e) busy = (busy.0, busy.1)
busy_has c m hand (AtE5 r i w t) busy = busy
busy_has c m hand (AtE6 r i w t) busy = busy
busy_has c m hand (AtD1 r) busy = busy
busy_has c m hand (AtD2 r l) busy = busy.0
busy_has c m hand (AtD3 r h l) busy = (busy.0, busy.1)
busy_has c m hand (AtD4 r h) busy = busy
busy_has c m hand (AtD5 r h e) busy = (busy.0, busy.1)
busy_has c m hand (AtD6 r h) busy = busy
busy_has c m hand (AtD7 r h from to) busy = (busy.0, busy.1)
busy_has c m hand (AtD8 r h from) busy = (busy.0, busy.1)
busy_has c m hand (AtD9 r h from to) busy = (busy.0, busy.1)
busy_has c m hand (AtD10 r h leaving) busy = busy

-- what a seat of a known stance has
pub stance_has : (c : Setup) (g : Ghost) (m : Machine) (k : ℕ) (s : Stance) → IsBased c g m → stance m k ≡ s → HasInStance c m.cells (m.part k).hand s
stance_has c g m k s base is =
    rw is at (busy_has c m.cells (m.part k).hand (m.part k).phase (base.steady.busy k))

-- another seat's stance stays
pub other_stance : (c : Setup) (m : Machine) (g : Ghost) (k : ℕ) (e : TicketEvent) (n : Machine) (j : ℕ) → EventFacts c m g k e n → j ≢ k
    → stance n j ≡ stance m j
other_stance c m g k e n j event_facts other = ap (λ (p : SeatPart). stance_of p.phase) (event_facts.others j other)
