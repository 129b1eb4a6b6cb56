-- That a seat's last call, which ended with Nothing, was right about it, in the history of the run
-- so far.
use Rattle.std.specs.Prelude.{◌≡◌, ℕ, ◌≤◌, List, ◌++◌, length}
use Rattle.scq_hist.specs.Exports.{IsRightWithin, IsCall}
use Rattle.scq_hist.specs.declared.events.Call.TheVariants.{Get}
use Rattle.scq_hist.specs.declared.events.Event.{Event}
use Rattle.scq_hist.specs.declared.events.Reply.TheVariants.{Nothing}

-- the history goes on from what it was; a get of this seat and queue has since started, and has
-- ended with Nothing; and at a moment inside this call each put of the queue that had ended is
-- claimed: a call that started before the moment has got it by now, or none has, and those that
-- none has are at most as many as the queue's other gets that started before the moment and are
-- still under way
pub record IsEmptyAtCall (opening : List (List ℕ)) (was events : List Event)
    (seat queue : ℕ) : Type 0 where
  pub later : List Event
  pub goes_on : events ≡ was ++ later
  pub start : ℕ
  pub stop : ℕ
  pub call : IsCall events seat (Get queue) start stop Nothing
  pub since : length was ≤ start
  pub right : IsRightWithin opening events queue start stop
