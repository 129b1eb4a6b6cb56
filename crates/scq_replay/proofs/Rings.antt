-- The ring of a call is one of the setup's
use Rattle.std.proofs.Common.{ℕ, ◌<◌, List, unwrap_or}
use Rattle.scq_word.specs.declared.setup.Setup.{Setup}
use Rattle.scq_core.specs.declared.phase.Phase.{Phase}
use Rattle.scq_core.specs.declared.phase.Phase.TheVariants.{Idle}
use Rattle.scq_core.specs.Exports.{Busy, Cells, ring_under_way}
use Rattle.scq_core.proofs.Readiness.{ring_low}

-- what a seat is in the middle of is on such a ring, and so is ring 0
pub under_way_ring : (c : Setup) (m : Cells) (hand : List ℕ) (phase : Phase) → Busy c m hand phase → unwrap_or (ring_under_way phase) 0 < c.rings
under_way_ring c m hand Idle busy = ring_low c m hand Idle busy
under_way_ring c m hand phase busy = ring_low c m hand phase busy
