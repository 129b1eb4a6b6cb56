-- Workers that wait in place of leaving early: how often they take in vain.
-- `topics` is the number of topic rings.
use Rattle.std.specs.Prelude.{ℕ, suc, ◌+◌, ◌*◌, ◌<◌, ◌≤◌, Bool, true, false, List, length}
use Rattle.std.specs.Prelude.{count_by}
use Rattle.scq_core.specs.declared.ended.Ended.{Ended}
use Rattle.scq_core.specs.declared.ended.Ended.TheVariants.{Nothing}
use Rattle.scq_queue.specs.Exports.{sends_of, takes_of, PassStanding}

-- whether a call is a take of a topic that found nothing, and how many of a record are
abbrev pub is_vain : Ended → Bool
is_vain (Nothing (suc topic)) = true
is_vain call = false

abbrev pub vain_takes : List Ended → ℕ
vain_takes calls = count_by is_vain calls

module _ {B : Type 0} where
  -- the pass took in vain at most so many times meanwhile
  abbrev pub TookInVain : ℕ → PassStanding B → PassStanding B → Type 0
  TookInVain most old new = vain_takes new.calls ≤ vain_takes old.calls + most

  -- it took something meanwhile
  abbrev pub TookMore : PassStanding B → PassStanding B → Type 0
  TookMore old new = length (takes_of old.calls) < length (takes_of new.calls)

  -- a worker that reads its files: it took in vain at most once for each topic and each Full, and
  -- so often behind each send
  abbrev pub HelpsInVain : ℕ → ℕ → PassStanding B → Type 0
  HelpsInVain topics behind p =
      vain_takes p.calls ≤ topics * length p.fulls + behind * length (sends_of p.calls)

  -- a worker that sweeps: it took in vain at most as often as there are topics for its last sweep,
  -- each rest, each take and each Full, and so often behind each send. `begun` is 1 once its last
  -- sweep has begun, and 0 before it
  abbrev pub SweepsInVain : ℕ → ℕ → ℕ → ℕ → PassStanding B → Type 0
  SweepsInVain topics behind begun rests p =
      vain_takes p.calls
      ≤ topics * (begun + rests + length (takes_of p.calls) + length p.fulls)
      + behind * length (sends_of p.calls)
