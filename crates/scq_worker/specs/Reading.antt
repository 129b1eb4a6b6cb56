-- What passing messages on makes of a worker.
use Rattle.std.proofs.Common.{◌≡◌, refl, sym, ◌∙◌, subst, ℕ, ◌+◌, false, List, [], ◌∷◌, ◌++◌}
use Rattle.std.proofs.Common.{length, append_assoc, Option, None}
use Rattle.std.proofs.lemmas.List.{append-nil}
use Rattle.scq_topics.specs.declared.kind.Kind.{Kind}
use Rattle.scq_frames.specs.Exports.{Part}
use Rattle.scq_band.specs.Exports.{Identity}
use Rattle.scq_park.specs.Exports.{Post}
use Rattle.scq_queue.specs.Exports.{HeldStanding}
use Rattle.scq_passes.specs.Exports.{Suits, HelpsInVain}
use Rattle.scq_worker.specs.Bells.{but_wakes, RingsOn, rings-along}
use Rattle.scq_worker.specs.Opening.{AreOpen, AreOpenBehind, open_on, takes_behind}
use Rattle.scq_worker.specs.Working.{IsAtWork, HasPassed, HasStopped}
use Rattle.scq_worker.specs.declared.job.Job.{Job}
use Rattle.scq_worker.specs.declared.worker.Worker.{Worker}

-- a worker has gathered these parts, and goes on
abbrev pub IsWorking : {B Place : Type 0} → List (List ℕ × Kind) → ℕ → List Part → Worker B Place
    → Type 0
IsWorking topics most parts w =
    IsAtWork topics most parts w.opens.items w.pass w.members w.starved

-- where these parts of a topic went on, what was open there did only before one that didn't fit
-- behind it, unless memory was wanted; and nothing that was open on another topic
pub record ClosesWhereFull {B Place : Type 0} (most topic : ℕ) (parts : List Part)
    (old new : Worker B Place) : Type 0 where
  pub own : new.starved ≡ false
      → AreOpenBehind most (open_on topic old.opens.items) parts (open_on topic new.opens.items)
  pub others : (t : ℕ) → (t ≡ topic → ⊥)
      → open_on t new.opens.items ≡ open_on t old.opens.items

-- whatever came of it, a worker has its numbers still, its stand is as it was but for whom it woke,
-- and where it wants no memory it wanted none before
pub record IsSameWorker {B Place : Type 0} (old new : Worker B Place) (was is : Post) : Type 0 where
  pub starved : new.starved ≡ false → old.starved ≡ false
  pub number : new.number ≡ old.number
  pub pass : new.pass.number ≡ old.pass.number
  pub bell : but_wakes is ≡ but_wakes was

module _ {B Place : Type 0} where
  pub still-same : (w : Worker B Place) (p : Post) → IsSameWorker w w p p
  still-same w p = record { starved = λ fed. fed; number = refl; pass = refl; bell = refl }

  pub still-along : (u v w : Worker B Place) (p q r : Post) → IsSameWorker u v p q
      → IsSameWorker v w q r → IsSameWorker u w p r
  still-along u v w p q r one more = record {
    starved = λ fed. one.starved (more.starved fed);
    number = more.number ∙ one.number;
    pass = more.pass ∙ one.pass;
    bell = more.bell ∙ one.bell;
  }

-- behind whatever it had passed on it has passed on this batch
abbrev pub HasPassedOn : {B Place : Type 0} → Job → List Part → Worker B Place → Worker B Place
    → Type 0
HasPassedOn j batch old new =
    (batches : List (List Part)) → HasPassed j.topics batches old.pass old.members old.starved
    → HasPassed j.topics (batches ++ batch ∷ []) new.pass new.members new.starved

module _ {B Place : Type 0} (q : Identity B) (j : Job) where
  -- a worker may make further calls, took in vain no more than it helped, and woke the next one at
  -- each send: `was` and `is` are what is seen of its stand
  pub record KeepsCalling (old new : Worker B Place) (was is : Post) : Type 0 where
    pub suits : Suits q (length j.topics) new.pass
    pub stays : new.pass.retired ≡ None
    pub vain : HelpsInVain (length j.topics + 1) (takes_behind j.most) old.pass
        → HelpsInVain (length j.topics + 1) (takes_behind j.most) new.pass
    pub rung : RingsOn was.worker j.workers old.pass new.pass was.wakes is.wakes

  -- behind whatever it had gathered it has gathered these parts, and goes on
  pub record HasGathered (more : List Part) (old new : Worker B Place) (was is : Post)
      : Type 0 where
    pub goes : KeepsCalling old new was is
    pub opens : AreOpen j.most (length j.topics + 1) new.opens.items
    pub work : (parts : List Part) → IsWorking j.topics j.most parts old
        → IsWorking j.topics j.most (parts ++ more) new

  -- it met a ticket past the limit, with at most one batch passed on behind those before
  abbrev pub HasStoppedBehind : Worker B Place → Worker B Place → Option (HeldStanding B) → Type 0
  HasStoppedBehind old new kept =
      (batches : List (List Part)) → HasPassed j.topics batches old.pass old.members old.starved
      → HasStopped q (length batches + 1) new.pass kept

  -- with at most the parts before and these passed on
  abbrev pub HasStoppedIn : List Part → Worker B Place → Worker B Place → Option (HeldStanding B)
      → Type 0
  HasStoppedIn more old new kept =
      (parts : List Part) → IsWorking j.topics j.most parts old
      → HasStopped q (length (parts ++ more)) new.pass kept

  -- it has gathered nothing
  pub gathered-nothing : (w : Worker B Place) (was : Post) → Suits q (length j.topics) w.pass
      → w.pass.retired ≡ None → AreOpen j.most (length j.topics + 1) w.opens.items
      → HasGathered [] w w was was
  gathered-nothing w was suits stays opens = record {
    goes = record {
      suits = suits;
      stays = stays;
      vain = λ few. few;
      rung = λ first rings. rings;
    };
    opens = opens;
    work = λ parts at.
        subst (λ (l : List Part). IsWorking j.topics j.most l w) (sym (append-nil parts)) at;
  }

  pub goes-along : (u v w : Worker B Place) (was mid is : Post) → mid.worker ≡ was.worker
      → KeepsCalling u v was mid → KeepsCalling v w mid is → KeepsCalling u w was is
  goes-along u v w was mid is same one more = record {
    suits = more.suits;
    stays = more.stays;
    vain = λ few. more.vain (one.vain few);
    rung = rings-along j.workers was.worker mid.worker u.pass v.pass w.pass was.wakes mid.wakes
        is.wakes same one.rung more.rung;
  }

  -- more parts behind these
  pub gathered-along : (ps ns : List Part) (u v w : Worker B Place) (was mid is : Post)
      → mid.worker ≡ was.worker → HasGathered ps u v was mid → HasGathered ns v w mid is
      → HasGathered (ps ++ ns) u w was is
  gathered-along ps ns u v w was mid is same one more = record {
    goes = goes-along u v w was mid is same one.goes more.goes;
    opens = more.opens;
    work = λ parts at.
        subst (λ (l : List Part). IsWorking j.topics j.most l w) (append_assoc parts ps ns)
        (more.work (parts ++ ps) (one.work parts at));
  }

  -- it stopped at one of those
  pub stopped-along : (ps ns : List Part) (u v w : Worker B Place) (was mid : Post)
      (kept : Option (HeldStanding B)) → HasGathered ps u v was mid → HasStoppedIn ns v w kept
      → HasStoppedIn (ps ++ ns) u w kept
  stopped-along ps ns u v w was mid kept one more parts at =
      subst (λ (l : List Part). HasStopped q (length l) w.pass kept) (append_assoc parts ps ns)
      (more (parts ++ ps) (one.work parts at))
