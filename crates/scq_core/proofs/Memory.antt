-- Which steps may want memory: those that copy a content, and those that end their call.
use Rattle.std.proofs.Common.{◌≡◌, ℕ, true, false, List, inl, inr, refl}
use Rattle.scq_word.specs.declared.setup.Setup.{Setup}
use Rattle.scq_core.specs.declared.phase.Phase.{Phase}
use Rattle.scq_core.specs.declared.phase.Phase.TheVariants.{Idle, AtE1, AtE5, AtE6, AtD1, AtD2, AtD4, AtD10}
use Rattle.scq_core.specs.declared.step.Step.{Step}
use Rattle.scq_core.specs.Exports.{SeatPart, read, beside, ring_of, cell_of, location_of, after, ends_call, TakesMemory, part_in, machine_of}
use Rattle.scq_core.specs.Exports.{found_by, WantsMemory}
use Rattle.scq_core.specs.StateLists.{StateLists}
use Rattle.scq_core.proofs.UpdatedLemmas.{updated_here}
use Rattle.scq_core.proofs.Turns.{turned}
use Rattle.scq_core.proofs.TurnCells.{read-cell}

-- a turn that ends its call leaves the seat idle
pub ended_idle : (c : Setup) (turn : Phase) (x : ℕ) (y : List ℕ) (p : SeatPart) → ends_call c turn x ≡ true → (after c turn x y p).phase ≡ Idle
ended_idle c (AtE1 r i w l) x y p ends = rw ends refl
ended_idle c (AtE5 r i w t) x y p ends = rw ends refl
ended_idle c (AtE6 r i w t) x y p ends = refl
ended_idle c (AtD1 r) x y p ends = rw ends refl
ended_idle c (AtD2 r l) x y p ends = rw ends refl
ended_idle c (AtD4 r h) x y p ends = refl
ended_idle c (AtD10 r h true) x y p ends = refl
ended_idle c (AtD10 r h false) x y p ends = rw ends refl
ended_idle c turn x y p ends = absurd (cc)

-- what the lists say of memory, the machine says
pub takes_memory : (b : StateLists) (k : ℕ) (step : Step) → WantsMemory b.setup (part_in b.seats k) step b.rings → TakesMemory b.setup (machine_of b) k step
takes_memory b k step (inl copies) = inl copies
takes_memory b k step (inr ends) =
    inr
    (λ later e.
    let c = b.setup in
    let m = machine_of b in
    let t = turned c m k step later e in
    let location = location_of c t.turn in
    let x = read m.cells location in
    let y = beside m.cells location in
    let found : x ≡ found_by c b.rings t.turn = read-cell c b.rings (ring_of t.turn) (cell_of c t.turn) in
    rw (t.next, updated_here m.part k (after c t.turn x y (m.part k))) (ended_idle c t.turn x y (m.part k) (rw found (ends t.turn t.enabled))))
