-- What each outcome of a call says of the pass that made it, in one record. A ring is named by its
-- number: 0 is the free ring, and topic t is ring t + 1.
use Rattle.std.specs.Prelude.{◌≡◌, ℕ, suc, ◌<◌, ◌≤◌, List, [], ◌∷◌, ◌++◌, None}
use Rattle.scq_word.specs.Exports.{n_of}
use Rattle.scq_band.specs.Exports.{opening_of, known_of, IsCallInRun, WasEmptyInRun, Identity}
use Rattle.scq_band.specs.Exports.{IsAsGiven}
use Rattle.scq_queue.specs.Lists.{with_put, with_got}
use Rattle.scq_queue.specs.Passes.{PassStanding, HeldStanding, lists_of, caller_of, having_seen}
use Rattle.scq_queue.specs.Passes.{HasGot, WasLent, FoundNothing, after_put, after_spent_put}
use Rattle.scq_queue.specs.Passes.{after_spent_get}

module _ {B : Type 0} where
  -- a value came off a ring at a place, which is below the limit, and not below the head that the
  -- pass knew. It is one of the queue's: its index is below n, and its buffer is the same as the
  -- one given for its index. On a topic the pass's takes have it as one more
  pub record CameOff (contents : B → List ℕ) (IsSame : B → B → Type 0) (queue : Identity B)
      (ring place : ℕ) (old new : PassStanding B) (h : HeldStanding B) : Type 0 where
    pub got : HasGot contents ring place old new h
    pub low : place < queue.setup.limit
    pub known : (known_of old.numbers ring).head ≤ place
    pub given : IsAsGiven IsSame queue.given h.index h.buffer
    pub index : h.index < n_of queue.setup.order
    pub lists : lists_of new ≡ with_got ring place (contents h.buffer) (lists_of old)

  -- a pass was lent one of the queue's values: its index is below n, and its buffer is the same as
  -- the one given for its index. The pass's lists are as they were
  pub record WasLentOfQueue (contents : B → List ℕ) (IsSame : B → B → Type 0) (queue : Identity B)
      (old new : PassStanding B) (h : HeldStanding B) : Type 0 where
    pub lent : WasLent contents old new h
    pub given : IsAsGiven IsSame queue.given h.index h.buffer
    pub index : h.index < n_of queue.setup.order
    pub lists : lists_of new ≡ lists_of old

  -- a value of an index was put on a ring at a place, which is below the limit, and above the
  -- places that the pass knew. On a topic the pass's sends have it as one more
  pub record WasPutOn (queue : Identity B) (ring place index : ℕ) (bytes : List ℕ)
      (old new : PassStanding B) : Type 0 where
    pub pass : new ≡ having_seen new.seen (after_put ring index place bytes old)
    pub low : place < queue.setup.limit
    pub known : (known_of old.numbers ring).seen < place
    pub lists : lists_of new ≡ with_put ring place bytes (lists_of old)

  -- a ring was found empty. In a run that has the call, after its last step the ring's Head was at
  -- or past the number answered; and at a moment inside the call each put there that had ended was
  -- got by a get begun by then, or had another such get, still under way when the call ends, to
  -- itself. The pass's lists are as they were
  pub record FoundRingEmpty (contents : B → List ℕ) (queue : Identity B) (ring head : ℕ)
      (old new : PassStanding B) : Type 0 where
    pub found : FoundNothing ring head old new
    pub in_run : WasEmptyInRun queue.setup (opening_of contents queue.given) ring head
        (caller_of old) (caller_of new)
    pub lists : lists_of new ≡ lists_of old

  abbrev pub FoundTopicEmpty : (B → List ℕ) → Identity B → ℕ → ℕ → PassStanding B → PassStanding B
      → Type 0
  FoundTopicEmpty contents queue topic head old new =
      FoundRingEmpty contents queue (suc topic) head old new

  -- the free ring was found empty as `FoundRingEmpty` says, of the pass with this Full added, with
  -- its head; its other lists are as they were
  abbrev pub FoundNoneFree : (B → List ℕ) → Identity B → ℕ → PassStanding B → PassStanding B
      → Type 0
  FoundNoneFree contents queue head old new =
      FoundRingEmpty contents queue 0 head (record old { fulls = old.fulls ++ head ∷ [] }) new

  -- a call was refused for a spent ticket. A pass that kept none drew it now, at or past the limit,
  -- and is `after`, but for what it has seen. Its lists are as they were
  pub record WasSpent (queue : Identity B) (ticket : ℕ) (after old new : PassStanding B)
      : Type 0 where
    pub drawn : old.spent ≡ None
        → (new ≡ having_seen new.seen after) × (queue.setup.limit ≤ ticket)
    pub lists : lists_of new ≡ lists_of old

  abbrev pub GetWasSpent : Identity B → ℕ → ℕ → PassStanding B → PassStanding B → Type 0
  GetWasSpent queue ring ticket old new =
      WasSpent queue ticket (after_spent_get ring ticket old) old new

  abbrev pub PutWasSpent : Identity B → ℕ → ℕ → PassStanding B → PassStanding B → Type 0
  PutWasSpent queue ring ticket old new =
      WasSpent queue ticket (after_spent_put ring ticket old) old new

  -- the call is one in a run, behind all that its pass had seen
  abbrev pub IsInRun : (B → List ℕ) → Identity B → PassStanding B → PassStanding B → Type 0
  IsInRun contents queue old new =
      IsCallInRun queue.setup (opening_of contents queue.given) (caller_of old) (caller_of new)
