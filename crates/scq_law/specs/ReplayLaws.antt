-- The laws of what was replayed: of the state that its run led to, of its counts, and of the run
-- from moment to moment.
use Rattle.std.specs.Prelude.{ℕ, ◌+◌, ◌≤◌, List}
use Rattle.std.specs.List.{All}
use Rattle.scq_word.specs.declared.setup.Setup.{Setup}
use Rattle.scq_word.specs.Exports.{reset_value}
use Rattle.scq_core.specs.declared.step.Step.{Step}
use Rattle.scq_core.specs.Exports.{CountersBounded, ThresholdFloor, machine_of}
use Rattle.scq_core.specs.Machine.{Machine}
use Rattle.scq_hist.specs.Exports.{HasAspects}
use Rattle.scq_law.specs.declared.replayed.Replayed.{Replayed}
use Rattle.scq_law.specs.Begun.{EnqueuesBegun}
use Rattle.scq_law.specs.Bounds.{WithinWindow, ThresholdCovers, TicketsBounded}
use Rattle.scq_law.specs.Bounds.{NoneSpentWithinLimit}
use Rattle.scq_law.specs.CallSteps.{CallsEnd, FewSteps}
use Rattle.scq_law.specs.Hands.{OneHand}
use Rattle.scq_law.specs.Kept.{Balanced, AllKept}
use Rattle.scq_law.specs.Lasting.{PlacesLastThroughout}
use Rattle.scq_law.specs.Moments.{RisesThroughout}
use Rattle.scq_law.specs.Places.{PlacesOnce}
use Rattle.scq_law.specs.Progress.{HasProgress, DelayedByEnds, EndsAlone}
use Rattle.scq_law.specs.Retries.{RetriesRise}
use Rattle.scq_law.specs.Spent.{SpentKept}
use Rattle.scq_law.specs.Standing.{EntriesMatchPlaces}

-- a state obeys each law that holds of every state that steps reach
pub record ObeysStateLaws (c : Setup) (m : Machine) : Type 0 where
  pub one_hand : OneHand c m
  pub places_once : PlacesOnce c m
  pub entries_match_places : EntriesMatchPlaces c m
  pub counters_bounded : CountersBounded c m
  pub threshold_floor : ThresholdFloor c m
  pub within_window : WithinWindow c m
  pub threshold_covers : ThresholdCovers c m
  pub tickets_bounded : TicketsBounded c m
  pub none_spent : NoneSpentWithinLimit c m
  pub spent_kept : SpentKept c m
  pub balanced : Balanced c m
  pub all_kept : AllKept c m
  pub retries_rise : RetriesRise c m
  pub calls_end : CallsEnd c m

-- few attempts have failed on each ring, as many enqueues have begun as the history has starts, and
-- no call has made many steps
pub record CountsHold (c : Setup) (steps : List (ℕ × Step)) (replayed : Replayed) : Type 0 where
  pub fails_bounded : All (λ fails. fails ≤ reset_value c.order c.seats + c.seats)
      replayed.fails.items
  pub begun : EnqueuesBegun c (machine_of replayed.state) replayed.events.items
  pub few_steps : FewSteps c steps (machine_of replayed.state)

-- what holds of each run that was replayed: of its state, of its history and of its counts
pub record ObeysLaws (c : Setup) (opening : List (List ℕ)) (steps : List (ℕ × Step))
    (replayed : Replayed) : Type 0 where
  pub state : ObeysStateLaws c (machine_of replayed.state)
  pub history : HasAspects opening replayed.events.items
  pub counts : CountsHold c steps replayed

-- all along these steps some call ends soon, words only rise, and what was placed lasts
pub record ObeysRunLaws (c : Setup) (opening : List (List ℕ))
    (steps : List (ℕ × Step)) : Type 0 where
  pub progress : HasProgress c opening steps
  pub delayed_by_ends : DelayedByEnds c opening steps
  pub ends_alone : EndsAlone c opening steps
  pub rises : RisesThroughout c opening steps
  pub places_last : PlacesLastThroughout c opening steps
