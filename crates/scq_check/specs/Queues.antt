-- For private calls: what is known of each queue at a moment
use Rattle.std.specs.Prelude.{◌≡◌, ℕ, ◌+◌, ◌<◌, ◌≤◌, ◌⊎◌, ◌==◌, if◌then◌else◌, List, Some, length}
use Rattle.std.specs.Prelude.{slice_get, unwrap_or}
use Rattle.std.specs.Ordering.{nat_cmp}
use Rattle.std.specs.BTreeMap.{get}
use Rattle.scq_hist.specs.Exports.{IsFinishedAt, IsPending, AllClaimed, IsCount, IsTally}
use Rattle.scq_hist.specs.declared.events.Call.TheVariants.{Put}
use Rattle.scq_hist.specs.declared.events.Event.{Event}
use Rattle.scq_hist.specs.declared.events.Event.TheVariants.{Start}
use Rattle.scq_hist.specs.declared.tallies.Tally.{Tally}
use Rattle.scq_check.specs.declared.queues.Queue.{Queue}
use Rattle.scq_check.specs.declared.queues.Queues.{Queues}

-- by its numbers the queue's finished puts are claimed at moment m
abbrev pub AreClaimed : Queue → ℕ → Type 0
AreClaimed queue m = (queue.tally.claimed_from ≤ m) × (queue.tally.ungot ≤ queue.pending)

-- a queue before any event: the opening tokens stand in queue 0
abbrev pub unseen : Tally → ℕ → Queue
unseen tokens number = record {
  tally = if number == 0 then tokens else record { ungot = 0; claimed_from = 0 };
  pending = 0;
  right_till = 0;
}

-- what is kept of a queue
abbrev pub queue_in : Queues → ℕ → Queue
queue_in queues number = unwrap_or (get nat_cmp queues.known number) (unseen queues.tokens number)

-- at moment m all finished puts of the queue are claimed
pub record IsRightAt (opening : List (List ℕ)) (events : List Event) (number m : ℕ) : Type 0 where
  pub claimed : AllClaimed events number m (IsFinishedAt opening events number m)

-- a moment up to m at which all finished puts of the queue are claimed
pub record IsRightBy (opening : List (List ℕ)) (events : List Event) (number m k : ℕ) : Type 0 where
  pub by : k ≤ m
  pub right : IsRightAt opening events number k

-- what is known of the queue of this number at moment m
pub record IsQueueAt (opening : List (List ℕ)) (events : List Event) (number m : ℕ)
    (queue : Queue) : Type 0 where
  pub tally : IsTally events
      (IsFinishedAt opening events number m) queue.tally.ungot queue.tally.claimed_from
  pub pending : IsCount (IsPending events number m) queue.pending
  pub right : 0 < queue.right_till → IsRightBy opening events number m queue.right_till
  pub last : (k : ℕ) → k ≤ m → IsRightAt opening events number k
      → (k ≤ queue.right_till) ⊎ AreClaimed queue m

-- so of each queue
pub record AreQueuesAt (opening : List (List ℕ)) (events : List Event) (m : ℕ)
    (queues : Queues) : Type 0 where
  pub each : (number : ℕ) → IsQueueAt opening events number m (queue_in queues number)

-- no count has outgrown the tokens and the events
pub record CountsAreSmall (m : ℕ) (queues : Queues) : Type 0 where
  pub ungot : (number : ℕ) → (queue_in queues number).tally.ungot ≤ queues.tokens.ungot + m
  pub pending : (number : ℕ) → (queue_in queues number).pending ≤ m

-- for each of the first m events the tally of a queue at that moment, and where a put starts that
-- of the put's queue
pub record AreTallies (opening : List (List ℕ)) (events : List Event) (m : ℕ)
    (tallies : List Tally) : Type 0 where
  pub many : length tallies ≡ m
  pub before : (e seat number : ℕ) (content : List ℕ) (tally : Tally)
      → slice_get events e ≡ Some (Start seat (Put number content))
      → slice_get tallies e ≡ Some tally
      → IsTally events (IsFinishedAt opening events number e) tally.ungot tally.claimed_from
