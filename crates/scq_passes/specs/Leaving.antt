-- How a worker sweeps the topics, and when it leaves. The queue is that of the pass, and `contents`
-- tells the bytes of its buffers.
use Rattle.std.specs.Prelude.{◌≡◌, ◌⊎◌, ℕ, suc, ◌+◌, ◌<◌, List, [], ◌∷◌, ◌++◌}
use Rattle.scq_core.specs.declared.ended.Ended.{Ended}
use Rattle.scq_core.specs.declared.ended.Ended.TheVariants.{Nothing}
use Rattle.scq_band.specs.Exports.{opening_of, IsCallInRun, IsReadingInRun, Identity}
use Rattle.scq_queue.specs.Exports.{takes_of, PassStanding, after_look, having_seen, caller_of}
use Rattle.scq_passes.specs.Records.{Puts}
use Rattle.scq_passes.specs.Calls.{HasTakenFollowed, after_retire}
use Rattle.scq_passes.specs.Waiting.{TookInVain}

module _ {B : Type 0} where
  -- the pass took nothing meanwhile
  abbrev pub TookNothing : PassStanding B → PassStanding B → Type 0
  TookNothing old new = takes_of new.calls ≡ takes_of old.calls

  -- it found a topic empty meanwhile
  pub record MetTopicEmpty (topic : ℕ) (old new : PassStanding B) : Type 0 where
    pub before : List Ended
    pub after : List Ended
    pub calls : new.calls ≡ ((old.calls ++ before) ++ Nothing (suc topic) ∷ []) ++ after

  -- the last of its calls found a topic empty
  pub record EndsAtEmpty (topic : ℕ) (p : PassStanding B) : Type 0 where
    pub before : List Ended
    pub calls : p.calls ≡ before ++ Nothing (suc topic) ∷ []

  -- it made calls meanwhile, one or more, and asked nothing. They stand in the run one behind the
  -- other, the first behind all that the pass had seen
  pub record HasOnlyCalled (contents : B → List ℕ) (queue : Identity B) (old new : PassStanding B)
      : Type 0 where
    pub in_run : IsCallInRun queue.setup (opening_of contents queue.given) (caller_of old)
        (caller_of new)
    pub gates : new.gates ≡ old.gates
    pub gate : new.gate ≡ old.gate

  -- a sweep: the pass asked whether all had retired, and found this number, as a reading in the
  -- run; behind that reading it made takes alone, and asked no more. Of so many topics it found
  -- each empty once, the last one at its end. Such puts follow the takes
  pub record IsSweep (contents : B → List ℕ) (queue : Identity B) (By : Puts) (topics found : ℕ)
      (old new : PassStanding B) : Type 0 where
    pub asked : PassStanding B
    pub answer : asked ≡ having_seen asked.seen (after_look found old)
    pub reading : IsReadingInRun queue.setup (opening_of contents queue.given) old.retired
        (caller_of old) (caller_of asked) found
    pub taken : HasTakenFollowed By asked new
    pub only : HasOnlyCalled contents queue asked new
    pub empty : (topic : ℕ) → topic < topics → MetTopicEmpty topic asked new
    pub once : TookInVain topics asked new
    pub last : (topic : ℕ) → suc topic ≡ topics → EndsAtEmpty topic new

  -- sweeps in a row, each begun where the one before ended, of which the last `idle` took nothing,
  -- and the one before these, if there is one, something. Where a sweep took nothing, `Goes` holds
  -- of the number of such in a row. Each of their readings found that not all had retired: of a
  -- given pass this is a possible past, as it keeps what its last reading found, and no more
  pub data AreSweeps (contents : B → List ℕ) (queue : Identity B) (By : Puts) (topics : ℕ)
      (Goes : ℕ → Type 0) : ℕ → PassStanding B → PassStanding B → Type 0 where
    no_sweep : (p : PassStanding B) → AreSweeps contents queue By topics Goes 0 p p
    and_some : {idle : ℕ} {first old new : PassStanding B} (found : ℕ)
        → AreSweeps contents queue By topics Goes idle first old
        → IsSweep contents queue By topics found old new → 0 < found → (TookNothing old new → ⊥)
        → AreSweeps contents queue By topics Goes 0 first new
    and_idle : {idle : ℕ} {first old new : PassStanding B} (found : ℕ)
        → AreSweeps contents queue By topics Goes idle first old
        → IsSweep contents queue By topics found old new → 0 < found → TookNothing old new
        → Goes (idle + 1) → AreSweeps contents queue By topics Goes (idle + 1) first new

  -- it swept, and left after a sweep before which all had retired, or where so many in a row took
  -- nothing
  pub record HasSweptLast (contents : B → List ℕ) (queue : Identity B) (By : Puts)
      (topics most : ℕ) (old new : PassStanding B) : Type 0 where
    pub idle : ℕ
    pub begun : PassStanding B
    pub before : AreSweeps contents queue By topics (λ n. n < most) idle old begun
    pub found : ℕ
    pub sweep : IsSweep contents queue By topics found begun new
    pub why : (found ≡ 0) ⊎ ((idle + 1 ≡ most) × TookNothing begun new)

  -- the pass of a worker that has left so: it had asked nothing before it retired, and from there
  -- on it swept
  pub record HasLeftSwept (contents : B → List ℕ) (By : Puts) (topics most : ℕ) (p : PassStanding B)
      : Type 0 where
    pub before : PassStanding B
    pub unasked : before.gates ≡ 0
    pub swept : HasSweptLast contents p.queue By topics most (after_retire before) p
