-- What sweeps make of a worker that has retired.
use Rattle.std.specs.Prelude.{◌≡◌, ℕ, false, Option}
use Rattle.scq_queue.specs.Exports.{HeldStanding}
use Rattle.scq_passes.specs.Exports.{HasLeftSo, TookNoneBelow}
use Rattle.scq_stages.specs.Records.{first}
use Rattle.scq_stages.specs.Steps.{HasFinished, HasGivenBack}
use Rattle.scq_stages.specs.Working.{HasFewStageCalls}
use Rattle.scq_stages.specs.declared.worker.Worker.{Worker}

module _ {B Place : Type 0} where
  -- what it took meanwhile it has finished, unless it wanted memory, and nothing lay below what it
  -- knew of first
  pub record HasFinishedAll (old new : Worker B Place) : Type 0 where
    pub finished : new.starved ≡ false
        → HasFinished old.pass new.pass old.members.items new.members.items
    pub below : TookNoneBelow first old.pass new.pass
    pub fed : new.starved ≡ false → old.starved ≡ false

  -- it met a ticket past the limit
  pub record HasLeftAt (old new : Worker B Place) (kept : Option (HeldStanding B)) : Type 0 where
    pub left : (messages : ℕ) → HasLeftSo HasFewStageCalls messages messages old.pass new.pass kept
    pub fed : new.starved ≡ false → old.starved ≡ false

  -- what it made of sweeps that went before, if any: the same goes for them and this
  abbrev pub FinishesOn : Worker B Place → Worker B Place → Type 0
  FinishesOn old new =
      (first_of : Worker B Place) → HasGivenBack first_of.pass old.pass
      → HasFinishedAll first_of old → HasFinishedAll first_of new

  abbrev pub LeavesOn : Worker B Place → Worker B Place → Option (HeldStanding B) → Type 0
  LeavesOn old new kept =
      (first_of : Worker B Place) → HasGivenBack first_of.pass old.pass
      → HasFinishedAll first_of old → HasLeftAt first_of new kept
