-- The enqueues begun on a ring, as the history has them.
use Rattle.std.specs.Prelude.{◌≡◌, ℕ, ◌+◌, Bool, false, ◌==◌, List}
use Rattle.std.specs.List.{count_by}
use Rattle.scq_word.specs.declared.setup.Setup.{Setup}
use Rattle.scq_core.specs.Machine.{Machine}
use Rattle.scq_hist.specs.declared.events.Call.TheVariants.{Put}
use Rattle.scq_hist.specs.declared.events.Event.{Event}
use Rattle.scq_hist.specs.declared.events.Event.TheVariants.{Start}
use Rattle.scq_law.specs.Bounds.{enqueues, openings}

-- the Start of a put of this queue
abbrev pub starts_put : ℕ → Event → Bool
starts_put r (Start seat (Put q w)) = q == r
starts_put r event = false

-- how many puts of this queue start in a history
abbrev pub puts_started : ℕ → List Event → ℕ
puts_started r events = count_by (starts_put r) events

-- on each ring the enqueues begun, which are read off records and phases, are the puts that start
-- in the history, and the opening puts
pub record EnqueuesBegun (c : Setup) (m : Machine) (events : List Event) : Type 0 where
  pub begun : (r : ℕ) → enqueues c m r ≡ puts_started r events + openings c r
