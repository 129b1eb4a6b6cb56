-- For private calls: the puts that end, and the gets that find nothing
use Rattle.std.specs.Prelude.{◌≡◌, ℕ, List, Bool, true, false}
use Rattle.scq_hist.specs.Calls.{IsCall}
use Rattle.scq_hist.specs.declared.events.Call.TheVariants.{Put}
use Rattle.scq_hist.specs.declared.events.Event.{Event}
use Rattle.scq_hist.specs.declared.events.Event.TheVariants.{End}
use Rattle.scq_hist.specs.declared.events.Reply.{Reply}
use Rattle.scq_hist.specs.declared.events.Reply.TheVariants.{Done, Nothing, Spent}
use Rattle.scq_hist.specs.declared.ended.EndedPut.{EndedPut}

-- how a put ends that was refused, or wasn't
abbrev pub put_reply : Bool → Reply
put_reply true = Spent
put_reply false = Done

-- the event ends no put
pub record EndsNoPut (event : Event) : Type 0 where
  pub none : (seat : ℕ) (refused : Bool) → ¬ (event ≡ End seat (put_reply refused))

-- this put ends at position e
pub record EndsPut (events : List Event) (e : ℕ) (put : EndedPut) : Type 0 where
  pub content : List ℕ
  pub call : IsCall events put.seat (Put put.queue content) put.start e (put_reply put.refused)

-- no put ends at position e so; and none does at all
pub record NoneEnds (refused : Bool) (events : List Event) (e : ℕ) : Type 0 where
  pub none : (s seat queue : ℕ) (content : List ℕ)
      → ¬ IsCall events seat (Put queue content) s e (put_reply refused)

pub record NoPutEnds (events : List Event) (e : ℕ) : Type 0 where
  pub none : (refused : Bool) → NoneEnds refused events e

-- the event is no End with Nothing
pub record FindsSomething (event : Event) : Type 0 where
  pub none : (seat : ℕ) → ¬ (event ≡ End seat Nothing)
