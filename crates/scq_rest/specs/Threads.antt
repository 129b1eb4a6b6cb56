-- What the worker of a thread is given, what it makes of that, and how its thread ends.
use Rattle.std.specs.Prelude.{◌≡◌, ℕ, ◌+◌, ◌<◌, ◌≤◌, List, length, All, None}
use Rattle.atomic_table.specs.Seated.{TableId}
use Rattle.scq_block.specs.Exports.{bytes_of}
use Rattle.scq_block.specs.declared.frame.Frame.{Frame}
use Rattle.scq_topics.specs.declared.kind.Kind.{Kind}
use Rattle.scq_band.specs.Exports.{Identity}
use Rattle.scq_park.specs.Exports.{first_post}
use Rattle.scq_worker.specs.Exports.{takes_behind, IsToBegin, HasProduced, HasRun, but_wakes}
use Rattle.scq_worker.specs.Exports.{RingsEachSend, HasRung}
use Rattle.scq_files.specs.Exports.{IsNew, ids_of, SourceOf}
use Rattle.scq_rest.specs.Waiting.{HasWaited}
use Rattle.scq_worker.specs.declared.job.Job.{Job}
use Rattle.scq_rest.specs.declared.threads.Work.{Work}
use Rattle.scq_rest.specs.declared.threads.HandedBack.{HandedBack}
use Rattle.scq_rest.specs.declared.threads.HandedBack.TheVariants.{Worked, Unbegun}

-- what all workers share: their queue, what they are to do, their crew, and what sources tell
pub record Task (S : Type 0) : Type 1 where
  pub queue : Identity Frame
  pub topics : List (List ℕ × Kind)
  pub size : ℕ
  pub most : ℕ
  pub longest : ℕ
  pub workers : ℕ
  pub crew : List TableId
  pub src : SourceOf S

module _ {S : Type 0} where
  abbrev pub task : Identity Frame → Job → List TableId → SourceOf S → Task S
  task q j crew src =
      record {
        queue = q;
        topics = j.topics;
        size = j.size;
        most = j.most;
        longest = j.longest;
        workers = j.workers;
        crew = crew;
        src = src;
      }

  -- they can begin: the queue has a ring for each topic and frames with room for a part, and the
  -- crew is one of so many
  pub record CanStart (t : Task S) : Type 0 where
    pub rings : t.queue.setup.rings ≡ length t.topics + 2
    pub room : All (λ b. t.size + 24 ≤ length b.bytes.items) t.queue.given
    pub crew : length t.crew ≡ t.workers
    pub some : 0 < t.workers

  -- what a worker is given: a new pass, files that nobody read, and a new stand of the crew
  pub record IsGiven (t : Task S) (w : Work S) : Type 0 where
    pub fresh : IsToBegin t.queue w.desk.worker
    pub unread : All IsNew w.desk.files.items
    pub stand : w.stand ≡ first_post t.crew w.stand.worker

  -- so a worker can begin
  pub record CanBegin (t : Task S) (w : Work S) : Type 0 where
    pub ready : CanStart t
    pub given : IsGiven t w

  -- one that has read its files and retired, in a crew of so many
  pub record HasReadAndRetired (t : Task S) (w : Work S) : Type 0 where
    pub produced : HasProduced t.queue t.topics t.size t.most t.longest t.src
        w.desk.files.items w.desk.worker.worker.pass
        w.desk.worker.worker.members w.desk.worker.worker.starved w.desk.worker.kept
    pub crew : length t.crew ≡ t.workers
    pub stand : w.stand.crew ≡ t.crew
    pub unrested : w.stand.rests ≡ 0

  -- where it met no ticket past the limit it woke the next worker as often as it sent
  abbrev pub RangEachSend : Task S → Work S → Work S → Type 0
  RangEachSend t old new =
      new.desk.worker.worker.pass.spent ≡ None
      → RingsEachSend old.stand.worker t.workers new.desk.worker.worker.pass old.stand.wakes
      new.stand.wakes

  -- and each other once more where its first question whether all had retired was its last
  abbrev pub RangOn : Task S → Work S → Work S → Type 0
  RangOn t old new =
      new.desk.worker.worker.pass.spent ≡ None
      → HasRung old.stand.worker t.workers new.desk.worker.worker.pass old.stand.wakes
      new.stand.wakes

  -- so far it made this of what it was given. Its stand is as it was, but for whom it woke
  pub record HasBegun (t : Task S) (old new : Work S) : Type 0 where
    pub begun : HasReadAndRetired t new
    pub files : ids_of new.desk.files.items ≡ ids_of old.desk.files.items
    pub number : new.desk.worker.worker.pass.number ≡ old.desk.worker.worker.pass.number
    pub stand : but_wakes new.stand ≡ but_wakes old.stand
    pub rung : RangEachSend t old new

  -- its whole work is done
  pub record HasDone (t : Task S) (old new : Work S) : Type 0 where
    pub run : HasRun t.queue t.topics t.size t.most t.longest t.src
        new.desk.files.items new.desk.worker.worker.pass
        new.desk.worker.worker.members new.desk.worker.worker.starved new.desk.worker.kept
    pub waited : HasWaited bytes_of (length t.topics
        + 1) (takes_behind t.most) new.stand.rests new.desk.worker.worker.pass
    pub files : ids_of new.desk.files.items ≡ ids_of old.desk.files.items
    pub number : new.desk.worker.worker.pass.number ≡ old.desk.worker.worker.pass.number
    pub crew : new.stand.crew ≡ old.stand.crew
    pub worker : new.stand.worker ≡ old.stand.worker
    pub rung : RangOn t old new

  -- how the thread of a worker ends: it did all, or nothing
  abbrev pub HandsBack : Task S → Work S → HandedBack S → Type 0
  HandsBack t given (Worked w) = HasDone t given w
  HandsBack t given (Unbegun w) = w ≡ given
