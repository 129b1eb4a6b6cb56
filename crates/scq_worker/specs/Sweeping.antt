-- What sweeps make of a worker.
use Rattle.std.specs.Prelude.{◌≡◌, ℕ, false, List, Option}
use Rattle.scq_topics.specs.declared.kind.Kind.{Kind}
use Rattle.scq_queue.specs.Exports.{HeldStanding}
use Rattle.scq_passes.specs.Exports.{HasLeft, HasTaken, TookInVain}
use Rattle.scq_worker.specs.Working.{HasAnswered}
use Rattle.scq_worker.specs.declared.worker.Worker.{Worker}

module _ {B Place : Type 0} where
  -- what it took meanwhile it has answered, unless it wanted memory
  pub record HasAnsweredAll (topics : List (List ℕ × Kind)) (old new : Worker B Place)
      : Type 0 where
    pub answered : new.starved ≡ false
        → HasAnswered topics old.pass new.pass old.members new.members
    pub fed : new.starved ≡ false → old.starved ≡ false

  -- it did nothing but take, at most so often in vain: what it got it gave back, and has answered
  -- unless it wanted memory
  pub record HasTakenAll (topics : List (List ℕ × Kind)) (most : ℕ) (old new : Worker B Place)
      : Type 0 where
    pub taken : HasTaken old.pass new.pass
    pub gates : new.pass.gates ≡ old.pass.gates
    pub vain : TookInVain most old.pass new.pass
    pub answered : new.starved ≡ false
        → HasAnswered topics old.pass new.pass old.members new.members

  -- whatever came of it, it has its number and all that was open still, and where it wants no
  -- memory it wanted none before
  pub record KeepsItsOwn (old new : Worker B Place) : Type 0 where
    pub starved : new.starved ≡ false → old.starved ≡ false
    pub number : new.number ≡ old.number
    pub opens : new.opens ≡ old.opens

  -- it met a ticket past the limit
  abbrev pub HasLeftAt : Worker B Place → Worker B Place → Option (HeldStanding B) → Type 0
  HasLeftAt old new kept = (parts : ℕ) → HasLeft parts parts old.pass new.pass kept
