-- Desks: workers with their files, whatever a worker is. Each has its own of the files.
use Rattle.std.specs.Prelude.{◌≡◌, ◌≢◌, ℕ, ◌<◌, Bool, false, List, Option, Some, None, length, map}
use Rattle.std.specs.Prelude.{reverse, slice_index_or, All}
use Rattle.scq_frames.specs.declared.fault.FrameFault.{FrameFault}
use Rattle.scq_frames.specs.declared.fault.FrameFault.TheVariants as frame
use Rattle.scq_files.specs.Ends.{AllEndFed, HasMoved, ReadingStopsAt}
use Rattle.scq_files.specs.Files.{files_of}
use Rattle.scq_files.specs.OwnFiles.{StopsAtAFault, ids_of}
use Rattle.scq_files.specs.Reading.{EndsSo, IsWhole, SourceOf}
use Rattle.scq_files.specs.declared.desk.Desk.{Desk}
use Rattle.scq_files.specs.declared.own_file.FileEnd.TheVariants.{Whole}

-- how the reading of all files ended, by what is gathered of them: their sources, the first fault,
-- and whether memory was wanted
pub record AreGathered {S : Type 0} (size : ℕ) (src : SourceOf S) (was news : List S)
    (fault : Option (ℕ × FrameFault)) (starved : Bool) : Type 0 where
  pub count : length news ≡ length was
  pub moved : (k : ℕ) (d : S) → k < length was
      → HasMoved src (slice_index_or was k d) (slice_index_or news k d)
  pub sound : fault ≡ None → (k : ℕ) (d : S) → k < length was
      → IsWhole size src (slice_index_or was k d) (slice_index_or news k d)
  pub cause : (file : ℕ) (f : FrameFault) → fault ≡ Some (file, f) → f ≢ frame.NoMemory
      → ReadingStopsAt size src was news file f
  pub fed : starved ≡ false → AllEndFed size src was news

module _ {W S : Type 0} where
  -- the workers at desks
  abbrev pub workers_at : List (Desk W S) → List W
  workers_at desks = map (λ d. d.worker) desks

  -- each worker has its own of the files from this number on, which have these sources, from the
  -- last to the first
  abbrev pub AreDealt : ℕ → List S → List (Desk W S) → Type 0
  AreDealt file sources desks =
      (w : ℕ) (d : Desk W S) → w < length desks
      → ids_of (slice_index_or desks w d).files.items
      ≡ reverse (files_of (length desks) w file sources)

  -- each file was read to its end
  abbrev pub AllWhole : List (Desk W S) → Type 0
  AllWhole desks = All (λ d. All (λ f. f.end ≡ Whole) d.files.items) desks

  -- no worker read a file behind one of its own that has a fault
  abbrev pub AllStop : List (Desk W S) → Type 0
  AllStop desks = All (λ d. StopsAtAFault d.files.items) desks

  -- the reading of each file ended as its desk has it
  abbrev pub AllEnded : ℕ → SourceOf S → List (Desk W S) → Type 0
  AllEnded size src desks =
      All (λ d. All (λ f.
      EndsSo size src f.was.value f.source f.end) d.files.items) desks
