-- A desk: a worker, its files, and the value that it keeps where it met a ticket past the limit.
-- What the worker's work makes of it.
use Rattle.std.specs.Prelude.{◌≡◌, ℕ, ◌+◌, false, Bool, List, [], length, Option, Some, None}
use Rattle.std.specs.Prelude.{IfSome}
use Rattle.scq_topics.specs.declared.kind.Kind.{Kind}
use Rattle.scq_collect.specs.declared.answered.Answered.{Answered}
use Rattle.scq_band.specs.Exports.{Identity}
use Rattle.scq_queue.specs.Exports.{PassStanding, HeldStanding}
use Rattle.scq_files.specs.Exports.{AreRead, StopsAtAFault, all_given, SourceOf}
use Rattle.scq_worker.specs.Opening.{takes_behind}
use Rattle.scq_worker.specs.Passing.{parts_in}
use Rattle.scq_passes.specs.Exports.{HelpsOnceAfterEachFull, HasRetired, HasSwept, HelpsInVain}
use Rattle.scq_passes.specs.Exports.{Suits, HasFewCalls, index_of, after_retire}
use Rattle.scq_worker.specs.Working.{IsAtWork, IsSweeping, HasListedAll}
use Rattle.scq_files.specs.declared.desk.Desk.{Desk}
use Rattle.scq_files.specs.declared.own_file.OwnFile.{OwnFile}
use Rattle.scq_worker.specs.declared.job.Job.{Job}
use Rattle.scq_worker.specs.Seats.{Seated}

-- of a worker, by its files, its pass, its list and the value that it keeps
module _ {B S : Type 0} (shared : Identity B) (topics : List (List ℕ × Kind))
    (size most longest : ℕ) (src : SourceOf S) (files : List (OwnFile S)) (pass : PassStanding B)
    (members : List Answered) (starved : Bool) (kept : Option (HeldStanding B)) where
  -- it has read its files and passed on what they gave it, in parts of at most `size` bytes and in
  -- batches of at most `most`, and has retired; now it is to sweep. None is open. `before` is its
  -- pass before it retired.
  pub record IsToSweep : Type 0 where
    pub read : AreRead topics longest src files
    pub stops : StopsAtAFault files
    pub before : PassStanding B
    pub retired : pass ≡ after_retire before
    pub suits : Suits shared (length topics) before
    pub work : IsAtWork topics most (parts_in size (all_given files)) [] before members starved
    pub vain : HelpsInVain (length topics + 1) (takes_behind most) before
    pub none : kept ≡ None

  -- it has done its work: what its files gave it has passed on, in parts of at most `size` bytes
  -- and in batches of at most `most`, it has retired, and it has left after a sweep, unless it met
  -- a ticket past the limit. `kept` is the value that it then kept.
  pub record HasRun : Type 0 where
    pub read : AreRead topics longest src files
    pub stops : StopsAtAFault files
    pub few_calls : HasFewCalls 1 (length (parts_in size (all_given files))) pass
    pub queue : pass.queue ≡ shared
    pub retired : (calls : ℕ) × (pass.retired ≡ Some calls)
    pub held : pass.held ≡ index_of kept
    pub its : IfSome kept (λ h. h.queue ≡ shared)
    -- where it met no such ticket
    pub sweeping : pass.spent ≡ None → IsSweeping (length topics + 1) pass
    pub ended : pass.spent ≡ None → HasRetired (HelpsOnceAfterEachFull (length topics + 1)) pass
    pub swept : pass.spent ≡ None → HasSwept pass
    pub listed : pass.spent ≡ None → starved ≡ false
        → HasListedAll topics most (parts_in size (all_given files)) pass members

  -- it has read its files and retired: it is to sweep, or, where it met a ticket past the limit, it
  -- has done its work
  pub record HasProduced : Type 0 where
    pub awake : pass.spent ≡ None → IsToSweep
    pub done : (ticket : ℕ) → pass.spent ≡ Some ticket → HasRun

-- the same of a desk and a job
module _ {B Place S : Type 0} (q : Identity B) (j : Job) (src : SourceOf S)
    (d : Desk (Seated B Place) S) where
  abbrev pub IsToSweepAt : Type 0
  IsToSweepAt = IsToSweep q j.topics j.size j.most j.longest src d.files.items
      d.worker.worker.pass d.worker.worker.members d.worker.worker.starved d.worker.kept

  abbrev pub HasRunAt : Type 0
  HasRunAt = HasRun q j.topics j.size j.most j.longest src d.files.items d.worker.worker.pass
      d.worker.worker.members d.worker.worker.starved d.worker.kept

  abbrev pub HasProducedAt : Type 0
  HasProducedAt = HasProduced q j.topics j.size j.most j.longest src d.files.items
      d.worker.worker.pass d.worker.worker.members d.worker.worker.starved d.worker.kept
