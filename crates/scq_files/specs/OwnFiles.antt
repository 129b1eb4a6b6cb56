-- Lists of a worker's files.
use Rattle.std.specs.Prelude.{◌≡◌, ℕ, ◌<◌, List, [], map, reverse, flat_map, length, slice_index_or}
use Rattle.std.specs.Prelude.{All}
use Rattle.scq_topics.specs.declared.kind.Kind.{Kind}
use Rattle.scq_frames.specs.declared.fault.FrameFault.{FrameFault}
use Rattle.scq_frames.specs.declared.message.Message.{Message}
use Rattle.scq_files.specs.Given.{given_in}
use Rattle.scq_files.specs.Reading.{IsRead, SourceOf}
use Rattle.scq_files.specs.declared.own_file.OwnFile.{OwnFile}
use Rattle.scq_files.specs.declared.own_file.FileEnd.TheVariants.{Unread, Stopped}

-- the numbers of files, each with what its source was
abbrev pub ids_of : {S : Type 0} → List (OwnFile S) → List (ℕ × S)
ids_of files = map (λ f. (f.number, f.was.value)) files

-- a file that isn't read yet
pub record IsNew {S : Type 0} (f : OwnFile S) : Type 0 where
  pub source : f.source ≡ f.was.value
  pub given : given_in f.given.value ≡ []
  pub end : f.end ≡ Unread

-- of files that lie from the last to the first none was read behind one that has a fault
abbrev pub StopsAtAFault : {S : Type 0} → List (OwnFile S) → Type 0
StopsAtAFault {S} files =
    (at before : ℕ) (d : OwnFile S) (fault : FrameFault) → at < length files
    → (slice_index_or files at d).end ≡ Stopped fault → before < at
    → IsNew (slice_index_or files before d)

-- the messages that files gave, which lie on the desk from the last to the first: in the order in
-- which they were read
abbrev pub all_given : {S : Type 0} → List (OwnFile S) → List Message
all_given files = flat_map (λ f. given_in f.given.value) (reverse files)

-- what is known of files by how the reading of each ended
abbrev pub AreRead : {S : Type 0} → List (List ℕ × Kind) → ℕ → SourceOf S → List (OwnFile S)
    → Type 0
AreRead topics size src files =
    All (λ f. IsRead topics size src f.number f.was.value f.source (given_in f.given.value) f.end)
    files

-- and of those that stood there so: they are the same, and none was read behind a fault
pub record WereRead {S : Type 0} (topics : List (List ℕ × Kind)) (size : ℕ) (src : SourceOf S)
    (old new : List (OwnFile S)) : Type 0 where
  pub same : ids_of new ≡ ids_of old
  pub read : AreRead topics size src new
  pub stops : StopsAtAFault new
