-- What the reading calls of a state stand on.
use Rattle.std.proofs.Common.{◌≡◌, ℕ, ◌<◌, ◌^◌, subst, length, arith}
use Rattle.std.specs.Prelude.{slice_index_or}
use Rattle.scq_core.specs.declared.slot.Cell.{Cell}
use Rattle.scq_core.specs.declared.slot.Cell.TheVariants.{Tail, Head, Threshold, Entry}
use Rattle.scq_core.specs.Exports.{RingLists, IsCell, IsState, IsCellOf, ring_in, machine_of}
use Rattle.scq_core.specs.StateLists.{StateLists}
use Rattle.scq_core.proofs.Entries.{zero_level_is, reset_small}
use Rattle.scq_core.proofs.Floor.{threshold_floor}
use Rattle.scq_core.proofs.Advancing.{ring_read}

-- Threshold is small enough for a signed number
pub threshold_small : (b : StateLists) → IsState b → (r : ℕ) → (machine_of b).cells.threshold r < 2 ^ 62
threshold_small b sound r =
    let high = (threshold_floor b.setup (machine_of b) sound.reachable).ceiling r in
    let low = reset_small b.setup in
    let level = zero_level_is in
    omega arith

-- the ring that was indexed is the state's
pub indexed_ring : (a b : StateLists) (r : ℕ) (ring : RingLists) → a ≡ b → IsState a → r < b.setup.rings → ring ≡ slice_index_or a.rings r ring
    → ring ≡ ring_in b.setup b.rings r
indexed_ring a b r ring same sound low is =
    let now : IsState b = subst (λ (x : StateLists). IsState x) same sound in
    let read : ring ≡ slice_index_or b.rings r ring = subst (λ (x : StateLists). ring ≡ slice_index_or x.rings r ring) same is in
    let within : r < length b.rings = omega (arith, now.rings.0) in
    ring_read b.setup b.rings r ring within read

-- and its cells are those of any ring
pub cell_there : (b : StateLists) (r : ℕ) (p : Cell) → IsState b → r < b.setup.rings → IsCellOf b.setup p → IsCell (ring_in b.setup b.rings r) p
cell_there b r Tail sound low is = tt
cell_there b r Head sound low is = tt
cell_there b r Threshold sound low is = tt
cell_there b r (Entry slot) sound low is = rw (sound.rings.1 r low) is
