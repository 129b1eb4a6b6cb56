-- For private calls: how the variables of a replay show what is recorded of its steps.
use Rattle.std.specs.Prelude.{◌≡◌, ℕ, ◌+◌, ◌^◌, ◌<◌, List, ◌++◌, length, slice_index}
use Rattle.scq_word.specs.declared.setup.Setup.{Setup}
use Rattle.scq_core.specs.Exports.{SeatPart, machine_of}
use Rattle.scq_hist.specs.declared.events.Event.{Event}
use Rattle.scq_hist.specs.declared.events.PutName.{PutName}
use Rattle.scq_hist.specs.declared.events.PutName.TheVariants.{Of}
use Rattle.scq_law.specs.declared.act.Act.{Act}
use Rattle.scq_law.specs.declared.recording.Recording.{Recording}
use Rattle.scq_law.specs.Run.{Recorded, end_of}
use Rattle.scq_law.specs.Acts.{starts_by, puts_after_act, names_by, resets_by, fails_by, ended_in}
use Rattle.scq_law.specs.Names.{name_at, placer_in}
use Rattle.scq_law.specs.Replay.{Counts}

-- the state, the events and the counts are those that are recorded, and the names say who placed
-- where
pub record Shows (c : Setup) (recorded : Recorded) (t : Recording) : Type 0 where
  pub setup : t.state.setup ≡ c
  pub state : machine_of t.state ≡ recorded.state
  pub events : t.events.items ≡ recorded.events
  pub puts : Counts c.seats t.puts.items recorded.puts
  pub rings : length t.names.items ≡ c.rings
  pub placer : (r p : ℕ) → placer_in c (name_at t.names.items) r p ≡ recorded.placer r p
  pub resets : Counts c.rings t.resets.items recorded.resets
  pub fails : Counts c.rings t.fails.items recorded.fails

-- each count can rise by one
pub record CountsCanRise (t : Recording) : Type 0 where
  pub puts : (k : ℕ) → slice_index t.puts.items k + 1 < 2 ^ 64
  pub resets : (r : ℕ) → slice_index t.resets.items r + 1 < 2 ^ 64
  pub fails : (r : ℕ) → slice_index t.fails.items r + 1 < 2 ^ 64

abbrev pub finishes_by : ℕ → (ℕ → ℕ → PutName) → SeatPart → List Event
finishes_by seat placer p = end_of seat placer (ended_in p.phase p.calls)

-- what a turn adds, after which its seat's part is p
pub record AddsTurn (c : Setup) (seat : ℕ) (act : Act) (p : SeatPart)
    (old new : Recording) : Type 0 where
  pub state : new.state ≡ old.state
  pub events : new.events.items ≡ old.events.items ++ starts_by seat act
      ++ finishes_by seat (placer_in c (name_at new.names.items)) p
  pub puts : new.puts.items ≡ puts_after_act seat act old.puts.items
  pub rings : length new.names.items ≡ length old.names.items
  pub names : (r q : ℕ)
      → name_at new.names.items r q
      ≡ names_by act p.phase (Of seat (slice_index new.puts.items seat))
      (name_at old.names.items) r q
  pub resets : new.resets.items ≡ resets_by act p.phase old.resets.items
  pub fails : new.fails.items ≡ fails_by act p.phase old.fails.items
