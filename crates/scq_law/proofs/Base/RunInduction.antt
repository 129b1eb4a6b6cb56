-- The induction over a run, for laws that stand on earlier ones: each step knows that the state before it is one of a run.
use Rattle.std.proofs.Common.{◌≡◌, ℕ, ◌+◌, List, length}
use Rattle.scq_word.specs.declared.setup.Setup.{Setup}
use Rattle.scq_word.specs.Exports.{n_of}
use Rattle.scq_core.specs.Machine.{Machine}
use Rattle.scq_core.specs.Exports.{moved, start_of}
use Rattle.scq_law.proofs.Base.Ghosts.{Ghost, start_ghost}
use Rattle.scq_law.proofs.Base.TicketEvents.{TicketEvent}
use Rattle.scq_law.proofs.Base.Traces.{Trace, trace_start, trace_step, event_of}
use Rattle.scq_law.proofs.Base.Based.{based}
use Rattle.scq_law.proofs.Base.EventSteps.{EventStep, event_step, ghost_next}

pub follow : (c : Setup) (P : ℕ → Ghost → Machine → Type 0)
    → ((opening : List (List ℕ)) → length opening ≡ n_of c.order → P 0 (start_ghost c opening) (start_of c opening))
    → ((time : ℕ) (g : Ghost) (m : Machine) (k : ℕ) (e : TicketEvent) (n : Machine) → Trace c time g m → EventStep c time g m k e n → P time g m
    → P (time + 1) (ghost_next time g m k e) n) → (time : ℕ) (g : Ghost) (m : Machine) → Trace c time g m → P time g m
follow c P start step time g m (trace_start opening full) = start opening full
follow c P start step time g m (trace_step {time = t} {g = h} {m = old} k s turn trace low enabled) =
    step t h old k (event_of c old turn) (moved c old k turn) trace (event_step c t h old k s turn low enabled (based c t h old trace))
    (follow c P start step t h old trace)
