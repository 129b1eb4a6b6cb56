-- A run with its ghost, and that each reachable state has one.
use Rattle.std.proofs.Common.{◌≡◌, ℕ, ◌+◌, ◌<◌, List, length}
use Rattle.std.specs.Prelude.{Some}
use Rattle.scq_word.specs.declared.setup.Setup.{Setup}
use Rattle.scq_word.specs.Exports.{n_of}
use Rattle.scq_core.specs.declared.phase.Phase.{Phase}
use Rattle.scq_core.specs.declared.step.Step.{Step}
use Rattle.scq_core.specs.Exports.{read, beside, turn_of, location_of, moved, start_of, IsReachable, at_start, by_step}
use Rattle.scq_core.specs.Machine.{Machine}
use Rattle.scq_core.proofs.Turns.{IsTurnOf, turned}
use Rattle.scq_law.proofs.Base.Ghosts.{Ghost, start_ghost}
use Rattle.scq_law.proofs.Base.TicketEvents.{TicketEvent, event, ghost_by}

-- the event of a turn in a state
abbrev pub event_of : Setup → Machine → Phase → TicketEvent
event_of c m turn = event c turn (read m.cells (location_of c turn)) (beside m.cells (location_of c turn))

-- the ghost after a turn of a seat
abbrev pub ghost_after : Setup → Machine → ℕ → ℕ → Phase → Ghost → Ghost
ghost_after c m time k turn g = ghost_by (event_of c m turn) time k (length (m.part k).calls) g

-- after so many steps the tickets are so and the state is this
pub data Trace (c : Setup) : ℕ → Ghost → Machine → Type 0 where
  trace_start : (opening : List (List ℕ)) → length opening ≡ n_of c.order → Trace c 0 (start_ghost c opening) (start_of c opening)
  trace_step : {time : ℕ} {g : Ghost} {m : Machine} (k : ℕ) (s : Step) (turn : Phase) → Trace c time g m → k < c.seats → turn_of c (m.part k) s ≡ Some turn
      → Trace c (time + 1) (ghost_after c m time k turn g) (moved c m k turn)

-- a state with a ghost that some run has
pub record HasTrace (c : Setup) (m : Machine) : Type 0 where
  pub time : ℕ
  pub ghost : Ghost
  pub trace : Trace c time ghost m

pub trace_by : (c : Setup) (m n : Machine) (k : ℕ) (s : Step) (time : ℕ) (g : Ghost) → Trace c time g m → k < c.seats → (t : IsTurnOf c m k s n)
    → Trace c (time + 1) (ghost_after c m time k t.turn g) n
trace_by c m n k s time g trace low t =
    rw t.next (trace_step k s t.turn trace low t.enabled)

pub has_trace : (c : Setup) (m : Machine) → IsReachable c m → HasTrace c m
has_trace c m (at_start opening full) = record { time = 0; ghost = start_ghost c opening; trace = trace_start opening full }
has_trace c m (by_step {m = old} k s reach low is) =
    let before = has_trace c old reach in
    let t = turned c old k s m is in
    record {
      time = before.time + 1;
      ghost = ghost_after c old before.time k t.turn before.ghost;
      trace = trace_by c old m k s before.time before.ghost before.trace low t;
    }
