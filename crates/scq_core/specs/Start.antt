-- The start: ring 0 full, all other rings empty, each seat idle with empty hands.
use Rattle.std.specs.Prelude.{ℕ, ◌+◌, ◌-◌, ◌==◌, if◌then◌else◌, List, [], None, slice_index_or}
use Rattle.std.specs.Prelude.{zero, suc}
use Rattle.scq_word.specs.declared.setup.Setup.{Setup}
use Rattle.scq_word.specs.Exports.{n_of, mark_of, packed}
use Rattle.scq_core.specs.declared.phase.Phase.TheVariants.{Idle}
use Rattle.scq_core.specs.Machine.{Cells, SeatPart, Machine}
use Rattle.scq_core.specs.Table.{zero_level, reset_level, ring_slots, slot}

-- the word of an entry that was never used
abbrev pub unused : ℕ → ℕ
unused m = packed m 0 1 (mark_of m)

-- the words by slot of a ring in which the indices below a count stand: index j in the slot of the
-- ticket 2n + j
abbrev pub filled : Setup → ℕ → ℕ → ℕ
filled c zero s = unused (ring_slots c)
filled c (suc j) s =
    if s == slot c (ring_slots c + j) then packed (ring_slots c) 1 1 j else filled c j s

-- the contents beside them: that of index j is the opening content j
abbrev pub filled_contents : Setup → List (List ℕ) → ℕ → ℕ → List ℕ
filled_contents c opening zero s = []
filled_contents c opening (suc j) s =
    if s == slot c (ring_slots c + j) then slice_index_or opening j []
    else filled_contents c opening j s

abbrev pub start_cells : Setup → List (List ℕ) → Cells
start_cells c opening =
    record {
      tail = λ r. if r == 0 then ring_slots c + n_of c.order else ring_slots c;
      head = λ r. ring_slots c;
      threshold = λ r. if r == 0 then reset_level c else zero_level - 1;
      entries =
          record {
            word = λ r s. if r == 0 then filled c (n_of c.order) s else unused (ring_slots c);
            content = λ r s. if r == 0 then filled_contents c opening (n_of c.order) s else [];
          };
    }

abbrev pub idle_part : SeatPart
idle_part = record { phase = Idle; hand = []; spent = None; calls = [] }

abbrev pub start_of : Setup → List (List ℕ) → Machine
start_of c opening =
    record { cells = start_cells c opening; part = λ k. idle_part; opening = opening }
