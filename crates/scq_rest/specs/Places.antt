-- What becomes of the workers that are to be started.
use Rattle.std.specs.Prelude.{◌≡◌, ℕ, ◌≤◌, List, [], Vec, vec_len, vec_capacity, All}
use Rattle.std.specs.Global.{Global}
use Rattle.std.specs.List.{AllZip}
use Rattle.atomic_table.specs.Seated.{TableId}
use Rattle.scq_block.specs.declared.frame.Frame.{Frame}
use Rattle.scq_band.specs.Exports.{Identity}
use Rattle.scq_files.specs.Exports.{SourceOf}
use Rattle.scq_rest.specs.Threads.{Task, task, CanStart, IsGiven, HasDone}
use Rattle.scq_worker.specs.declared.job.Job.{Job}
use Rattle.scq_rest.specs.declared.places.Runner.{Runner}
use Rattle.scq_rest.specs.declared.places.Runner.TheVariants.{Started, Here, Done}
use Rattle.scq_rest.specs.declared.threads.Work.{Work}
use Rattle.scq_rest.specs.declared.threads.WorksOn.{WorksOn}

module _ {S : Type 0} where
  -- what the worker of a place was given
  abbrev pub given_to : Runner S → Work S
  given_to (Started h) = h.promise.work.value
  given_to (Here was work) = was.work.value
  given_to (Done was work) = was.work.value

  -- how many workers of a place the caller runs, which are to read their files
  abbrev pub here : Runner S → ℕ
  here (Started h) = 0
  here (Here was work) = 1
  here (Done was work) = 0

  -- a worker of this queue, job and crew was given what one begins with
  pub record IsReadyToBegin (q : Identity Frame) (j : Job) (crew : List TableId) (src : SourceOf S)
      (w : WorksOn S) : Type 0 where
    pub queue : w.queue.value ≡ q
    pub job : w.job.value ≡ j
    pub of : w.crew.value ≡ crew
    pub given : IsGiven (task q j crew src) w.work.value

  -- so stands the worker of a place: where it has a thread of its own, that will tell; where the
  -- caller runs it, R holds of what it was given and what it has
  abbrev pub HasWork : (Task S → Work S → Work S → Type 0) → Identity Frame → Job → List TableId
      → SourceOf S → Runner S → Type 0
  HasWork R q j crew src (Started h) = IsReadyToBegin q j crew src h.promise
  HasWork R q j crew src (Here was work) =
      IsReadyToBegin q j crew src was
      × R (task q j crew src) was.work.value work
  HasWork R q j crew src (Done was work) = HasDone (task q j crew src) was.work.value work

  abbrev pub IsUntouched : Task S → Work S → Work S → Type 0
  IsUntouched t given work = work ≡ given

  -- the first worker and the others can begin: there are so many flags for the others, and room for
  -- their places and ends
  abbrev pub CanAllBegin : Task S → ℕ → Work S → Vec (Work S) Global → Vec (Runner S) Global
      → Vec (Work S) Global → Type 0
  CanAllBegin t flags first given places ends =
      CanStart t × IsGiven t first × All (IsGiven t) given.items × (vec_len given ≤ flags)
      × (places.items ≡ []) × (ends.items ≡ []) × (vec_len given ≤ vec_capacity places)
      × (vec_len given ≤ vec_capacity ends)

  -- and all have done their work, in order
  abbrev pub HaveDone : Task S → Work S → Vec (Work S) Global → Work S → Vec (Work S) Global
      → Type 0
  HaveDone t first given done ends =
      HasDone t first done × AllZip (HasDone t) given.items ends.items
