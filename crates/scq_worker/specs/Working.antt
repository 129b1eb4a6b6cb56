-- What a worker's calls make of its pass and of its list.
use Rattle.std.specs.Prelude.{◌≡◌, ℕ, ◌+◌, Bool, false, List, length, filter, flat_map, Option}
use Rattle.scq_topics.specs.declared.kind.Kind.{Kind}
use Rattle.scq_frames.specs.Exports.{Part}
use Rattle.scq_collect.specs.declared.answered.Answered.{Answered}
use Rattle.scq_queue.specs.Exports.{sends_of, takes_of, PassStanding, HeldStanding}
use Rattle.scq_band.specs.Exports.{Identity}
use Rattle.scq_passes.specs.Exports.{HelpsOnceAfterEachFull, HelpsAfterEachFull, HasSentSo}
use Rattle.scq_passes.specs.Exports.{IsBetweenParts, HasFewCalls}
use Rattle.scq_desk.specs.GoingOn as going
use Rattle.scq_worker.specs.Members.{AnswersSoFar, AnswersItsFulls, is_taken, is_direct}
use Rattle.scq_worker.specs.Opening.{PartsAreGathered}
use Rattle.scq_worker.specs.Passing.{AreBatchesOf, BatchesArePassedOn, FollowsCalls, Sends}

module _ {B : Type 0} where
  -- a pass that was lent a buffer and sent a batch in it on this topic
  abbrev pub HasSent : ℕ → List Part → PassStanding B → PassStanding B → Type 0
  HasSent topic batch old new = HasSentSo topic (Sends batch) old new

  -- the pass of a worker that reads its files, so far: it took just once from each topic after each
  -- Full, and never asked whether all had retired
  pub record IsProducing (topics : ℕ) (p : PassStanding B) : Type 0 where
    pub helps : HelpsOnceAfterEachFull topics p.calls
    pub between : IsBetweenParts p
    pub unasked : p.gates ≡ 0

  -- that of a worker that sweeps: the same, but that it may have taken more since the last Full
  pub record IsSweeping (topics : ℕ) (p : PassStanding B) : Type 0 where
    pub helps : HelpsAfterEachFull topics p.calls
    pub between : IsBetweenParts p

  -- its list, so far, against its pass and the batches that it has passed on: the direct answers
  -- stand in groups, one for each batch that met a Full, in order
  pub record HasListed (topics : List (List ℕ × Kind)) (batches : List (List Part))
      (p : PassStanding B) (members : List Answered) : Type 0 where
    pub groups : List (List Answered)
    pub directs : filter is_direct members ≡ flat_map (λ group. group) groups
    pub passed : BatchesArePassedOn topics batches (sends_of p.calls) groups
    pub follows : FollowsCalls batches p.calls
    pub takes : AnswersSoFar topics (takes_of p.calls) (filter is_taken members)
    pub fulls : AnswersItsFulls p.fulls groups

  -- a list that has the answers to what its pass took meanwhile, and nothing else more
  pub record HasAnswered (topics : List (List ℕ × Kind)) (old new : PassStanding B)
      (was is : List Answered) : Type 0 where
    pub takes : AnswersSoFar topics (takes_of old.calls) (filter is_taken was)
        → AnswersSoFar topics (takes_of new.calls) (filter is_taken is)
    pub directs : filter is_direct is ≡ filter is_direct was

  -- a worker that has passed on these batches and goes on: its pass, and unless it wanted memory
  -- its list
  pub record HasPassed (topics : List (List ℕ × Kind)) (batches : List (List Part))
      (p : PassStanding B) (members : List Answered) (starved : Bool) : Type 0 where
    pub producing : IsProducing (length topics + 1) p
    pub few_calls : HasFewCalls 0 (length batches) p
    pub listed : starved ≡ false → HasListed topics batches p members

  -- a worker that has gathered these parts and goes on: it has passed them on in batches, but for
  -- those that are open
  pub record IsAtWork (topics : List (List ℕ × Kind)) (most : ℕ) (parts : List Part)
      (opens : List (List Part)) (p : PassStanding B) (members : List Answered) (starved : Bool)
      : Type 0 where
    pub batches : List (List Part)
    pub gathered : PartsAreGathered most parts batches opens
    pub passed : HasPassed topics batches p members starved

  -- a list, against its pass and all parts of a worker's files: they went on in batches
  pub record HasListedAll (topics : List (List ℕ × Kind)) (most : ℕ) (parts : List Part)
      (p : PassStanding B) (members : List Answered) : Type 0 where
    pub batches : List (List Part)
    pub are : AreBatchesOf most parts batches
    pub listed : HasListed topics batches p members

  -- a worker that met Spent while it read its files, after at most so many parts, the last one
  -- included: its pass, and the value that it keeps
  abbrev pub HasStopped : Identity B → ℕ → PassStanding B → Option (HeldStanding B) → Type 0
  HasStopped shared parts p kept = going.HasStopped (HasFewCalls 1 parts) shared p kept
