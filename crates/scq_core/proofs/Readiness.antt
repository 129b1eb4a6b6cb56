-- What the arithmetic of a turn stands on is there on every reachable state: its ring is one of the setup's, counters have
-- room, tickets are below the limit, entries have an index of the ring or the mark.
use Rattle.std.proofs.Common.{◌≡◌, ℕ, ◌<◌, List, Some, refl, arith}
use Rattle.scq_word.specs.declared.setup.Setup.{Setup}
use Rattle.scq_core.specs.declared.phase.Phase.{Phase}
use Rattle.scq_core.specs.declared.phase.Phase.TheVariants.{Idle, AtE1, AtE2, AtE3, AtE4, AtE5, AtE6, AtD1, AtD2, AtD3, AtD4, AtD5, AtD6, AtD7, AtD8, AtD9, AtD10}
use Rattle.scq_core.specs.declared.step.Step.{Step}
use Rattle.scq_core.specs.Exports.{Cells, read, turn_of, location_of, ring_of, IsReachable, IsReady, Busy, WordsFit}
use Rattle.scq_core.specs.Machine.{Machine}
use Rattle.scq_core.proofs.Turns.{awake}
use Rattle.scq_core.proofs.Steady.{has, steady}
use Rattle.scq_core.proofs.Fits.{words_fit}
use Rattle.scq_core.proofs.Indices.{HasIndices, has_indices}

-- the ring of a turn is one of the setup's
pub ring_low : (c : Setup) (m : Cells) (hand : List ℕ) (turn : Phase) → Busy c m hand turn → ring_of turn < c.rings
ring_low c m hand Idle busy = let some = c.rings_in_range in omega arith
ring_low c m hand (AtE1 r i w l) busy = busy.0.ring
ring_low c m hand (AtE2 r i w t l) busy = busy.0.ring
ring_low c m hand (AtE3 r i w t e) busy = busy.0.ring
ring_low c m hand (AtE4 r i w t e) busy = busy.0.ring
ring_low c m hand (AtE5 r i w t) busy = busy.0
ring_low c m hand (AtE6 r i w t) busy = busy.0
ring_low c m hand (AtD1 r) busy = busy
ring_low c m hand (AtD2 r l) busy = busy.0
ring_low c m hand (AtD3 r h l) busy = busy.0
ring_low c m hand (AtD4 r h) busy = busy.0
ring_low c m hand (AtD5 r h e) busy = busy.0
ring_low c m hand (AtD6 r h) busy = busy.0
ring_low c m hand (AtD7 r h from to) busy = busy.0
ring_low c m hand (AtD8 r h from) busy = busy.0
ring_low c m hand (AtD9 r h from to) busy = busy.0
ring_low c m hand (AtD10 r h leaving) busy = busy.0

-- what the arithmetic of a turn stands on
pub ready_turn : (c : Setup) (m : Cells) (hand : List ℕ) (turn : Phase) → Busy c m hand turn → WordsFit c m → HasIndices c m → (turn ≡ Idle → ⊥)
    → IsReady c turn (read m (location_of c turn))
ready_turn c m hand Idle busy fit all wakes = wakes refl
ready_turn c m hand (AtE1 r i w l) busy fit all wakes = fit.tail r
ready_turn c m hand (AtE2 r i w t l) busy fit all wakes = (busy.1.below_limit, all.entries r _)
ready_turn c m hand (AtE3 r i w t e) busy fit all wakes = busy.1.below_limit
ready_turn c m hand (AtE4 r i w t e) busy fit all wakes = (busy.1.below_limit, busy.0.index, all.entries r _)
ready_turn c m hand (AtE5 r i w t) busy fit all wakes = tt
ready_turn c m hand (AtE6 r i w t) busy fit all wakes = tt
ready_turn c m hand (AtD1 r) busy fit all wakes = tt
ready_turn c m hand (AtD2 r l) busy fit all wakes = fit.head r
ready_turn c m hand (AtD3 r h l) busy fit all wakes = (busy.1.below_limit, all.entries r _)
ready_turn c m hand (AtD4 r h) busy fit all wakes = all.entries r _
ready_turn c m hand (AtD5 r h e) busy fit all wakes = (busy.1.below_limit, all.entries r _)
ready_turn c m hand (AtD6 r h) busy fit all wakes = busy.1.below_limit
ready_turn c m hand (AtD7 r h from to) busy fit all wakes = tt
ready_turn c m hand (AtD8 r h from) busy fit all wakes = tt
ready_turn c m hand (AtD9 r h from to) busy fit all wakes = tt
ready_turn c m hand (AtD10 r h leaving) busy fit all wakes = (busy.1.below_limit, (fit.threshold r).0)

-- so each enabled turn of a reachable state can be made
pub enabled_ready : (c : Setup) (m : Machine) (k : ℕ) (step : Step) (turn : Phase) → IsReachable c m → turn_of c (m.part k) step ≡ Some turn
    → (ring_of turn < c.rings) × IsReady c turn (read m.cells (location_of c turn))
enabled_ready c m k step turn reach enabled =
    let p = m.part k in
    let busy : Busy c m.cells p.hand turn = has c m.cells p step turn ((steady c m reach).busy k) enabled in
    let wakes : turn ≡ Idle → ⊥ = awake c p.hand p.spent p.phase step turn enabled in
    (ring_low c m.cells p.hand turn busy, ready_turn c m.cells p.hand turn busy (words_fit c m reach) (has_indices c m reach) wakes)
