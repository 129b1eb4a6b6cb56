-- A step of a run as later laws see it, and the induction over a run by such steps.
use Rattle.std.proofs.Common.{◌≡◌, ℕ, ◌+◌, ◌<◌, List, length}
use Rattle.std.specs.Prelude.{Some}
use Rattle.scq_word.specs.declared.setup.Setup.{Setup}
use Rattle.scq_word.specs.Exports.{n_of}
use Rattle.scq_core.specs.declared.phase.Phase.{Phase}
use Rattle.scq_core.specs.declared.step.Step.{Step}
use Rattle.scq_core.specs.Machine.{Machine}
use Rattle.scq_core.specs.Exports.{turn_of, moved, start_of}
use Rattle.scq_law.proofs.Base.Ghosts.{Ghost, start_ghost}
use Rattle.scq_law.proofs.Base.TicketEvents.{TicketEvent, ghost_by}
use Rattle.scq_law.proofs.Base.Traces.{Trace, trace_start, trace_step, event_of}
use Rattle.scq_law.proofs.Base.EventFacts.{EventFacts}
use Rattle.scq_law.proofs.Base.BaseGroup.{Moves}
use Rattle.scq_law.proofs.Base.Based.{IsBased, based, turn_outcome, based_turn}
use Rattle.scq_law.proofs.Base.TurnEvents.{event_facts}

-- the ghost after an event of seat k at this step of the run
abbrev pub ghost_next : ℕ → Ghost → Machine → ℕ → TicketEvent → Ghost
ghost_next time g m k e = ghost_by e time k (length (m.part k).calls) g

-- a step of seat k from the state m to n by the event e, each with the base group
pub record EventStep (c : Setup) (time : ℕ) (g : Ghost) (m : Machine) (k : ℕ) (e : TicketEvent) (n : Machine) : Type 0 where
  pub low : k < c.seats
  pub base : IsBased c g m
  pub later : IsBased c (ghost_next time g m k e) n
  pub event_facts : EventFacts c m g k e n
  pub moves : Moves c m.cells.entries g k n.cells.entries (ghost_next time g m k e)

pub event_step : (c : Setup) (time : ℕ) (g : Ghost) (m : Machine) (k : ℕ) (s : Step) (turn : Phase) → k < c.seats → turn_of c (m.part k) s ≡ Some turn
    → IsBased c g m → EventStep c time g m k (event_of c m turn) (moved c m k turn)
event_step c time g m k s turn low enabled base =
    let out = turn_outcome c m g time k s turn enabled base in
    record {
      low = low;
      base = base;
      later = based_turn c m g time k s turn enabled base;
      event_facts = event_facts c m g k s turn enabled base;
      moves = out.effect.moves;
    }

-- what holds at the start and is kept by each event holds in each state of a run
pub along : (c : Setup) (P : ℕ → Ghost → Machine → Type 0)
    → ((opening : List (List ℕ)) → length opening ≡ n_of c.order → P 0 (start_ghost c opening) (start_of c opening))
    → ((time : ℕ) (g : Ghost) (m : Machine) (k : ℕ) (e : TicketEvent) (n : Machine) → EventStep c time g m k e n → P time g m
    → P (time + 1) (ghost_next time g m k e) n) → (time : ℕ) (g : Ghost) (m : Machine) → Trace c time g m → P time g m
along c P start step time g m (trace_start opening full) = start opening full
along c P start step time g m (trace_step {time = t} {g = h} {m = old} k s turn trace low enabled) =
    step t h old k (event_of c old turn) (moved c old k turn) (event_step c t h old k s turn low enabled (based c t h old trace))
    (along c P start step t h old trace)
