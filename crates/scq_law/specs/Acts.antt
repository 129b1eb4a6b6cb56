-- For private calls: what a turn may add to what is recorded of its run, as its seat's phase and
-- the step say; and what it adds, by what became of its seat.
use Rattle.std.specs.Prelude.{ℕ, ◌+◌, ◌-◌, ◌<◌, List, [], ◌∷◌, length, Option, Some, None}
use Rattle.std.specs.Prelude.{slice_get, slice_index, slice_set}
use Rattle.scq_core.specs.declared.ended.Ended.{Ended}
use Rattle.scq_core.specs.declared.phase.Phase.{Phase}
use Rattle.scq_core.specs.declared.phase.Phase.TheVariants.{Idle, AtE4, AtE5, AtE6, AtD10}
use Rattle.scq_core.specs.declared.step.Step.{Step}
use Rattle.scq_core.specs.declared.step.Step.TheVariants.{E1, D1}
use Rattle.scq_core.specs.Exports.{updated_entry}
use Rattle.scq_hist.specs.declared.events.Call.TheVariants.{Put, Get}
use Rattle.scq_hist.specs.declared.events.Event.{Event}
use Rattle.scq_hist.specs.declared.events.Event.TheVariants.{Start}
use Rattle.scq_hist.specs.declared.events.PutName.{PutName}
use Rattle.scq_law.specs.declared.act.Act.{Act}
use Rattle.scq_law.specs.declared.act.Act.TheVariants.{Begins, Exchanges, Settles, Fails, Moves}

abbrev pub act_of : Phase → Step → Act
act_of Idle (E1 r i w) = Begins (Put r w)
act_of Idle (D1 r) = Begins (Get r)
act_of (AtE4 r i w t e) step = Exchanges r t
act_of (AtE5 r i w t) step = Settles r
act_of (AtE6 r i w t) step = Settles r
act_of (AtD10 r h leaving) step = Fails r
act_of phase step = Moves

-- the ring that it counts on is one of so many
abbrev pub IsOnRing : ℕ → Act → Type 0
IsOnRing rings (Exchanges r t) = r < rings
IsOnRing rings (Settles r) = r < rings
IsOnRing rings (Fails r) = r < rings
IsOnRing rings act = Unit {0}

abbrev pub starts_by : ℕ → Act → List Event
starts_by seat (Begins call) = Start seat call ∷ []
starts_by seat act = []

-- one more put of the seat where one begins
abbrev pub puts_after_act : ℕ → Act → List ℕ → List ℕ
puts_after_act seat (Begins (Put q w)) puts = slice_set puts seat (slice_index puts seat + 1)
puts_after_act seat act puts = puts

-- the put of this name stands at the place, where the exchange has succeeded
abbrev pub names_by : Act → Phase → PutName → (ℕ → ℕ → Option PutName) → ℕ → ℕ → Option PutName
names_by (Exchanges r t) (AtE5 q i w u) name names = updated_entry names r t (Some name)
names_by act phase name names = names

abbrev pub resets_by : Act → Phase → List ℕ → List ℕ
resets_by (Settles r) Idle resets = slice_set resets r (slice_index resets r + 1)
resets_by act phase resets = resets

abbrev pub fails_by : Act → Phase → List ℕ → List ℕ
fails_by (Settles r) Idle fails = slice_set fails r 0
fails_by (Fails r) phase fails = slice_set fails r (slice_index fails r + 1)
fails_by act phase fails = fails

-- the call that has ended, where the seat is idle
abbrev pub ended_in : Phase → List Ended → Option Ended
ended_in Idle calls = slice_get calls (length calls - 1)
ended_in phase calls = None
