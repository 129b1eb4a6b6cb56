-- What lasts of the places of all rings: from a state to a later one, and so from each moment of a
-- run to each later one.
use Rattle.std.specs.Prelude.{ℕ, ◌≤◌, List}
use Rattle.scq_word.specs.declared.setup.Setup.{Setup}
use Rattle.scq_core.specs.declared.step.Step.{Step}
use Rattle.scq_core.specs.Machine.{Machine}
use Rattle.scq_core.specs.Exports.{RecordsGrow}
use Rattle.scq_law.specs.Run.{Recorded}
use Rattle.scq_law.specs.Moments.{IsMoment}
use Rattle.scq_law.specs.Places.{Maker, GaveUp, IsPlacedBy, IsTakenBy}
use Rattle.scq_law.specs.Bounds.{IsFinished}

-- what a later state still has
pub record PlacesLast (c : Setup) (m later : Machine) : Type 0 where
  -- what stands in a seat's record stays there
  pub records : RecordsGrow m later
  -- what was placed stays so, with its content and the call that placed it
  pub placed : (r p : ℕ) (w : List ℕ) (a : Maker) → IsPlacedBy c m r p w a
      → IsPlacedBy c later r p w a
  -- what was taken stays so, with its content and the call that took it
  pub taken : (r p : ℕ) (w : List ℕ) (k x : ℕ) → IsTakenBy m r p w k x → IsTakenBy later r p w k x
  -- a place whose put has ended stays one
  pub finished : (r p : ℕ) → IsFinished c m r p → IsFinished c later r p
  -- at a ticket that a dequeue gave up nothing is ever placed
  pub given_up : (k r h : ℕ) → GaveUp (m.part k).phase r h → (w : List ℕ) (a : Maker)
      → IsPlacedBy c later r h w a → ⊥

-- all along these steps
pub record PlacesLastThroughout (c : Setup) (opening : List (List ℕ))
    (steps : List (ℕ × Step)) : Type 0 where
  pub last : (i j : ℕ) (now later : Recorded) → i ≤ j → IsMoment c opening steps i now
      → IsMoment c opening steps j later → PlacesLast c now.state later.state
