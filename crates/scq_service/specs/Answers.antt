-- What was got for the workers, what they did with it, and what they left.
use Rattle.std.specs.Prelude.{◌≡◌, ℕ, ◌+◌, ◌^◌, ◌<◌, ◌≤◌, Bool, true, false, List, [], ◌∷◌, map}
use Rattle.std.specs.Prelude.{Option, Some, None, IsNone, IsSome, IfSome, IsSomeAnd, OnSome}
use Rattle.std.specs.Prelude.{Result, Ok, length, take}
use Rattle.std.specs.Prelude.{slice_index_or}
use Rattle.std.specs.List.{All}
use Rattle.std.specs.Option.{option_map}
use Rattle.std.specs.List.Sorted.{IsPermutation}
use Rattle.scq_block.specs.declared.frame.Frame.{Frame}
use Rattle.scq_park.specs.declared.rested.Rested.{Rested}
use Rattle.scq_queue.specs.Exports.{PassStanding}
use Rattle.scq_frames.specs.declared.message.Message.{Message}
use Rattle.scq_collect.specs.Exports.{messages_to, part_answers, without_way, members_of}
use Rattle.scq_self.specs.Exports.{generated, self_topics}
use Rattle.scq_stages.specs.AllStages as staging
use Rattle.scq_stages.specs.Output as stage_output
use Rattle.scq_stages.specs.declared.job.StageJob.{StageJob}
use Rattle.scq_stages.specs.declared.staged.Staged.{Staged}
use Rattle.scq_topics.specs.declared.kind.Kind.{Kind}
use Rattle.scq_words.specs.Exports.{RunAsked}
use Rattle.scq_words.specs.Asked.{Asked}
use Rattle.scq_words.specs.Asked as asks
use Rattle.scq_words.specs.declared.fault.WordsFault.{WordsFault}
use Rattle.scq_work.specs.Exports.{HasWorked, NothingIsStranded}
use Rattle.scq_worker.specs.Exports.{most_together, takes_behind}
use Rattle.scq_worker.specs.declared.job.Job.{Job}
use Rattle.scq_files.specs.Exports.{AreGiven, all_left, messages_in}
use Rattle.scq_files.specs.Reading as reading
use Rattle.scq_rest.specs.Exports.{HaveWaited}
use Rattle.scq_work.specs.declared.worked.Worked.{Worked}
use Rattle.scq_service.specs.Members.{SourceOf}
use Rattle.scq_service.specs.Contents.{IfVisible, without_names}
use Rattle.scq_service.specs.Ends.{HasGotSources, HasMissed, IfTold, Inputs, IsUnchanged}
use Rattle.scq_service.specs.Ends.{most_payload}
use Rattle.scq_service.specs.Faults.{status_of}
use Rattle.scq_service.specs.declared.fault.Fault.{Fault}
use Rattle.scq_service.specs.declared.fault.Fault.TheVariants.{WriteFault, NoMemory}
use Rattle.scq_service.specs.declared.outcome.Outcome.{Outcome}

-- the sources of the first of these names were got, in order, and none was read
pub record HaveCome {S : Type 0} (src : SourceOf S) (names : List (List ℕ)) (r : Inputs S)
    : Type 0 where
  pub within : length r.sources ≤ length names
  pub table : r.table.new ≡ option_map (without_names (take (length r.sources) names)) r.table.old
  pub fresh : All (λ source. src.faults source ≡ 0) r.sources
  pub unread : IfVisible r.table.old (take (length r.sources) names) (λ contents.
      all_left src.left r.sources ≡ Some contents)

-- those of all names, or the next was not got
abbrev pub HaveAllCome : {S : Type 0} → List (List ℕ) → Inputs S → Bool → Type 0
HaveAllCome names r true = (length r.sources ≡ length names) × IsUnchanged r.misses
HaveAllCome names r false = (length r.sources < length names) × HasMissed names r

-- what workers made is there exactly where the whole text was made: where nothing failed, or only
-- its writing did
abbrev pub IsThereAt : {W : Type 0} → Option Fault → Option W → Type 0
IsThereAt None worked = IsSome worked
IsThereAt (Some WriteFault) worked = IsSome worked
IsThereAt (Some fault) worked = worked ≡ None

-- where each source told its content when it was got, so many workers answered the messages of
-- these contents
abbrev pub IsWorkOf : {S : Type 0} → List (List ℕ × Kind) → ℕ → ℕ → ℕ → (S → Option (List ℕ))
    → List S → Option Worked → Type 0
IsWorkOf topics size most workers left got worked =
    IfSome worked (λ w.
    IfTold left got (λ contents.
    HasWorked topics size most workers (messages_in topics 1 contents) w))

-- messages that the sources may have given, a list for each: each was read to its end since it was
-- got, with no fault counted, and where it told its content had just these messages
pub record HaveGiven {S : Type 0} (topics : List (List ℕ × Kind)) (size : ℕ) (src : SourceOf S)
    (got : List S) (r : Inputs S) (given : List (List Message)) : Type 0 where
  pub count : length r.sources ≡ length got
  pub whole : (k : ℕ) (d : S) → k < length got
      → reading.IsWhole size src (slice_index_or got k d) (slice_index_or r.sources k d)
  pub gave : AreGiven topics size src.left 1 got given

-- so many workers answered such messages, with payloads of at most `longest` bytes in parts of at
-- most `size`, which are those of the contents where these were told
abbrev pub WorkersAnswered : {S : Type 0} → List (List ℕ × Kind) → ℕ → ℕ → ℕ → ℕ → SourceOf S
    → List S → Inputs S → Option Worked → Type 0
WorkersAnswered topics size most longest workers src got r worked =
    IfSome worked (λ w.
    (given : List (List Message)) × HaveGiven topics longest src got r given
    × HasWorked topics size most workers given w)

-- the answers in all lists are those to all parts of the messages of the contents, each once, where
-- these were told
abbrev pub AreOfParts : {S : Type 0} → List (List ℕ × Kind) → ℕ → (S → Option (List ℕ)) → List S
    → Option Worked → Type 0
AreOfParts topics size left got worked =
    IfSome worked (λ w. IfTold left got (λ contents.
    IsPermutation (map without_way (members_of w.answered.items))
    (part_answers topics size (messages_to topics 1 contents))))

-- how many bytes the parts of a value may have together in a run that is asked for this
abbrev pub most_of : RunAsked → ℕ
most_of a = most_together a.size a.batch

-- what workers answered in a run that is asked for this; any other command has no `worked` (of
-- `stages` see `StagedAs`). Parts of a generated file have at most 2^16 bytes, and none go
-- together.
abbrev pub WorkedAs : {S : Type 0} → SourceOf S → Result Asked WordsFault → List S → Inputs S
    → Option Fault → Option Worked → Type 0
WorkedAs src (Ok (asks.run a)) got r end worked =
    IsThereAt end worked × IsWorkOf a.topics a.size (most_of a) a.workers src.left got worked
    × WorkersAnswered a.topics a.size (most_of a) most_payload a.workers src got r worked
WorkedAs src (Ok (asks.generated a)) got r end worked =
    IsThereAt end worked
    × IfSome worked (λ w.
    HasWorked self_topics (2 ^ 16) 0 a.workers
    (messages_in self_topics 1 (generated a.seed a.lines ∷ [])) w)
WorkedAs src asked got r end worked = worked ≡ None

-- where each source told its content when it was got, so many workers of stages finished the
-- messages of these contents
abbrev pub IsStagedOf : {S : Type 0} → ℕ → (S → Option (List ℕ)) → List S → Option Staged → Type 0
IsStagedOf workers left got staged =
    IfSome staged (λ s.
    IfTold left got (λ contents. staging.HasStaged workers (messages_in [] 1 contents) s))

-- so many workers finished such messages, with payloads of at most `size` bytes, which are those of
-- the contents where these were told
abbrev pub IsStaging : {S : Type 0} → ℕ → ℕ → SourceOf S → List S → Inputs S → Option Staged
    → Type 0
IsStaging size workers src got r staged =
    IfSome staged (λ s.
    (given : List (List Message)) × HaveGiven [] size src got r given
    × staging.HasStaged workers given s)

-- the members of all lists are what becomes of the messages of the contents, each once, where these
-- were told
abbrev pub AreAllHandled : {S : Type 0} → (S → Option (List ℕ)) → List S → Option Staged → Type 0
AreAllHandled left got staged =
    IfSome staged (λ s. IfTold left got (λ contents.
    IsPermutation (map stage_output.without_way (stage_output.finished_in s.done.items))
    (stage_output.all_handled 1 contents)))

-- nothing is stranded in the queue of the workers of stages once it was closed, by their passes as
-- they were then
abbrev pub StrandsNothing : ℕ → ℕ → Option Staged → Type 0
StrandsNothing order workers staged =
    IfSome staged (λ s. (frames : List Frame) × (left : List ℕ)
    × staging.NothingIsStranded order workers s.passes.value.items frames left)

-- what is told of workers at the end of a run of this job over files with these names
pub record TellsWork {S : Type 0} (j : Job) (src : SourceOf S) (names : List (List ℕ))
    (r : Inputs S) (o : Outcome S) : Type 0 where
  pub got : HasGotSources src names o.got.items r
  pub status : o.status ≡ status_of o.fault
  -- what they made is there exactly where the whole text was made, and answers such messages as
  -- the sources may have given: of contents that were told, and of every source
  pub worked : IsThereAt o.fault o.worked
  pub unstaged : o.staged ≡ None
  pub known : IfSome o.worked (λ w.
      All (λ a. a.topic ≤ length j.topics) (members_of w.answered.items))
  pub answers : AreOfParts j.topics j.size src.left o.got.items o.worked
  pub told : IsWorkOf j.topics j.size j.most j.workers src.left o.got.items o.worked
  pub work : WorkersAnswered j.topics j.size j.most j.longest j.workers src o.got.items r o.worked
  -- whatever the end is, nothing is stranded in their queue. It is seen unless the run ended for
  -- want of memory, and where they made anything, by the passes that come with it
  pub none_stranded : IfSome o.left (λ l. IsSomeAnd o.passes (λ p. IsSomeAnd o.frames (λ f.
      NothingIsStranded j.order (length j.topics
      + 1) j.workers p.value.items f.value.items l.items)))
  pub there : OnSome o.worked (IsSome o.left)
  pub seen : IsNone o.left → o.fault ≡ Some NoMemory
  pub same : IfSome o.worked (λ w. IsSomeAnd o.passes (λ p. p.value.items ≡ w.passes.value.items))

-- what is told of workers of stages at the end of a run of this job over files with these names.
-- Of their queue nothing is seen beside what they finished
pub record TellsStages {S : Type 0} (j : StageJob) (src : SourceOf S) (names : List (List ℕ))
    (r : Inputs S) (o : Outcome S) : Type 0 where
  pub got : HasGotSources src names o.got.items r
  pub status : o.status ≡ status_of o.fault
  pub unworked : o.worked ≡ None
  pub staged : IsThereAt o.fault o.staged
  pub handled : AreAllHandled src.left o.got.items o.staged
  pub told : IsStagedOf j.workers src.left o.got.items o.staged
  pub work : IsStaging j.size j.workers src o.got.items r o.staged
  pub stranded : StrandsNothing j.order j.workers o.staged
  pub left : o.left ≡ None
  pub leaves : o.waited ≡ None

-- what is told of so many workers at the end of a run that answered the file of this seed with so
-- many lines. No source is got, and none waits
pub record TellsSelf {S : Type 0} (seed lines workers : ℕ) (o : Outcome S) : Type 0 where
  pub sources : o.sources.items ≡ []
  pub read : o.read ≡ 0
  pub status : o.status ≡ status_of o.fault
  pub worked : IsThereAt o.fault o.worked
  pub unstaged : o.staged ≡ None
  pub told : IfSome o.worked (λ w.
      HasWorked self_topics (2 ^ 16) 0 workers
      (messages_in self_topics 1 (generated seed lines ∷ [])) w)
  pub none_stranded : IfSome o.left (λ l. IsSomeAnd o.passes (λ p. IsSomeAnd o.frames (λ f.
      NothingIsStranded 6 (length self_topics + 1) workers p.value.items f.value.items l.items)))
  pub seen : IsNone o.left → o.fault ≡ Some NoMemory
  pub same : IfSome o.worked (λ w. IsSomeAnd o.passes (λ p. p.value.items ≡ w.passes.value.items))
  pub leaves : o.waited ≡ None

-- a run without workers
pub record HasNoWorkers {S : Type 0} (o : Outcome S) : Type 0 where
  pub worked : o.worked ≡ None
  pub unstaged : o.staged ≡ None
  pub left : o.left ≡ None
  pub leaves : o.waited ≡ None

-- what the workers of stages finished in a run that is asked for this; another run has none
abbrev pub StagedAs : {S : Type 0} → SourceOf S → Result Asked WordsFault → List S → Inputs S
    → Option Fault → Option Staged → Type 0
StagedAs src (Ok (asks.staged a)) got r end staged =
    IsThereAt end staged × IsStagedOf a.workers src.left got staged
    × IsStaging a.size a.workers src got r staged
    × StrandsNothing a.order a.workers staged
StagedAs src asked got r end staged = staged ≡ None

-- what is seen of the queue of a run's workers once it was closed: these passes, these buffers that
-- came back, and this much left in its rings. Nothing is stranded in it. A generated file is
-- answered through 2^6 buffers.
abbrev pub LeavesNothing : Result Asked WordsFault → List (PassStanding Frame) → List Frame → List ℕ
    → Type 0
LeavesNothing (Ok (asks.run a)) passes frames left =
    NothingIsStranded a.order (length a.topics + 1) a.workers passes frames left
LeavesNothing (Ok (asks.generated a)) passes frames left =
    NothingIsStranded 6 (length self_topics + 1) a.workers passes frames left
LeavesNothing asked passes frames left = ⊥

-- of `run` and `self` it is seen unless want of memory ended the run, where it may be; of no other
-- command (of `stages` see `StrandsNothing`)
abbrev pub IsSeenAt : Result Asked WordsFault → Option Fault → Bool → Type 0
IsSeenAt (Ok (asks.run a)) end seen = seen ≡ false → end ≡ Some NoMemory
IsSeenAt (Ok (asks.generated a)) end seen = seen ≡ false → end ≡ Some NoMemory
IsSeenAt asked end seen = seen ≡ false

-- how the workers of a run waited, by these passes: as many as were asked for, with a ring for each
-- topic. Of another command none do
abbrev pub WaitedAs : Result Asked WordsFault → List (PassStanding Frame) → List Bool → List Rested
    → Type 0
WaitedAs (Ok (asks.run a)) passes saw rested =
    HaveWaited (length a.topics + 1) (takes_behind (most_of a)) a.workers passes saw rested
WaitedAs asked passes saw rested = ⊥
