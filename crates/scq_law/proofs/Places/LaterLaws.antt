-- What stands in a record stays there. What was placed or taken stays so, a put that has ended stays so, and what was given up
-- stays given up.
use Rattle.std.proofs.Common.{◌≡◌, ℕ, ◌+◌, List, ◌++◌, length, inl, inr}
use Rattle.std.specs.List.{Contains}
use Rattle.std.proofs.lemmas.List.Elements.{Contains-append_left}
use Rattle.scq_word.specs.declared.setup.Setup.{Setup}
use Rattle.scq_core.specs.declared.ended.Ended.TheVariants.{Done, Got}
use Rattle.scq_core.specs.Machine.{Machine}
use Rattle.scq_core.specs.Exports.{RecordsGrow, IsReachable}
use Rattle.scq_core.proofs.Records.{grows_by_none, grows_on, records_grow}
use Rattle.scq_core.proofs.Turns.{turned}
use Rattle.scq_law.specs.Exports.{IsLater, at_once, by_step, Maker, GaveUp, IsPlacedBy, IsTakenBy, IsFinished, PlacesLast}
use Rattle.scq_law.proofs.Base.Ghosts.{Ghost, placed, dead}
use Rattle.scq_law.proofs.Base.Traces.{Trace, has_trace, trace_by, ghost_after}
use Rattle.scq_law.proofs.Base.Based.{based}
use Rattle.scq_law.proofs.Base.EventSteps.{event_step}
use Rattle.scq_law.proofs.Places.RecordsAgree.{call_stays}
use Rattle.scq_law.proofs.Places.Throughout.{records_agree}
use Rattle.scq_law.proofs.Places.PlaceLaws.{placed_by, by_placed, not_dead, gave_up_dead}

-- a later state with its ghost, in which what was placed or given up is so still
record Onward (c : Setup) (g : Ghost) (n : Machine) : Type 0 where
  time : ℕ
  ghost : Ghost
  trace : Trace c time ghost n
  lies : (r p i : ℕ) (w : List ℕ) (a : Maker) → g.puts r p ≡ placed i w a → ghost.puts r p ≡ placed i w a
  ends : (r h : ℕ) → g.gets r h ≡ dead → ghost.gets r h ≡ dead

onward : (c : Setup) (m : Machine) (time : ℕ) (g : Ghost) → Trace c time g m → (n : Machine) → IsLater c m n → Onward c g n
onward c m time g trace n at_once =
    record { time = time; ghost = g; trace = trace; lies = λ r p i w a is. is; ends = λ r h is. is }
onward c m time g trace n' (by_step {n = n} k s later low is) =
    let o = onward c m time g trace n later in
    let t = turned c n k s n' is in
    let sc = event_step c o.time o.ghost n k s t.turn low t.enabled (based c o.time o.ghost n o.trace) in
    record {
      time = o.time + 1;
      ghost = ghost_after c n o.time k t.turn o.ghost;
      trace = trace_by c n n' k s o.time o.ghost o.trace low t;
      lies = λ r p i w a at. sc.moves.lies r p i w a (o.lies r p i w a at);
      ends = λ r h at. sc.moves.ends r h (o.ends r h at);
    }

-- what stands in the seats' records stays there
pub records_last : (c : Setup) (m n : Machine) → IsLater c m n → RecordsGrow m n
records_last c m n at_once = record { calls = λ k. grows_by_none (m.part k).calls }
records_last c m n' (by_step {n = n} k s later low is) =
    let before = records_last c m n later in
    let step = records_grow c n n' k s is in
    record { calls = λ j. grows_on (m.part j).calls (n.part j).calls (n'.part j).calls (before.calls j) (step.calls j) }

-- so what was taken stays so, and so does a put that has ended
pub taken_stays : (c : Setup) (m n : Machine) (r p : ℕ) (w : List ℕ) (k x : ℕ) → IsLater c m n → IsTakenBy m r p w k x → IsTakenBy n r p w k x
taken_stays c m n r p w k x later is =
    let grown = (records_last c m n later).calls k in rw grown.appended (call_stays (m.part k).calls grown.more x (Got r p w) is)

pub finished_stays : (c : Setup) (m n : Machine) (r p : ℕ) → IsLater c m n → IsFinished c m r p → IsFinished c n r p
finished_stays c m n r p later (inr opening) = inr opening
finished_stays c m n r p later (inl done) =
    let grown = (records_last c m n later).calls done.seat in
    let stays : Contains ((m.part done.seat).calls ++ grown.more) (Done r p done.content) =
    Contains-append_left (m.part done.seat).calls grown.more (Done r p done.content) done.ended in
    inl (record { seat = done.seat; content = done.content; ended = rw grown.appended stays })

pub placed_stays : (c : Setup) (m n : Machine) (r p : ℕ) (w : List ℕ) (a : Maker) → IsReachable c m → IsLater c m n → IsPlacedBy c m r p w a
    → IsPlacedBy c n r p w a
placed_stays c m n r p w a reach later by =
    let s = has_trace c m reach in
    let at = placed_by c s.ghost m (based c s.time s.ghost m s.trace) (records_agree c s.time s.ghost m s.trace) r p w a by in
    let o = onward c m s.time s.ghost s.trace n later in
    by_placed c o.ghost n (based c o.time o.ghost n o.trace) (records_agree c o.time o.ghost n o.trace) r p at.0 w a (o.lies r p at.0 w a at.1)

pub given_up_stays : (c : Setup) (m n : Machine) (k r h : ℕ) → IsReachable c m → IsLater c m n → GaveUp (m.part k).phase r h → (w : List ℕ) (a : Maker)
    → IsPlacedBy c n r h w a → ⊥
given_up_stays c m n k r h reach later gave w a by =
    let s = has_trace c m reach in
    let base = based c s.time s.ghost m s.trace in
    let gone = gave_up_dead s.ghost k (length (m.part k).calls) (m.part k).phase r h (base.claims k) gave in
    let o = onward c m s.time s.ghost s.trace n later in
    let later_base = based c o.time o.ghost n o.trace in
    not_dead c o.ghost n later_base (records_agree c o.time o.ghost n o.trace) r h w a by (o.ends r h gone)

-- the law, from a reachable state to each later one
pub places_last : (c : Setup) (m n : Machine) → IsReachable c m → IsLater c m n → PlacesLast c m n
places_last c m n reach later =
    record {
      records = records_last c m n later;
      placed = λ r p w a by. placed_stays c m n r p w a reach later by;
      taken = λ r p w k x by. taken_stays c m n r p w k x later by;
      finished = λ r p is. finished_stays c m n r p later is;
      given_up = λ k r h gave w a by. given_up_stays c m n k r h reach later gave w a by;
    }
