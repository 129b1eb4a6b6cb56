-- Want of memory where messages are handled one by one.
use Rattle.std.specs.Prelude.{◌≡◌, ℕ, ◌<◌, ◌≤◌, Bool, false, List, ◌++◌, length, slice_index_or}
use Rattle.scq_frames.specs.declared.fault.FrameFault.TheVariants.{NoMemory}
use Rattle.scq_frames.specs.declared.message.Message.{Message}
use Rattle.scq_files.specs.declared.own_file.FileEnd.TheVariants.{Stopped}
use Rattle.scq_files.specs.declared.own_file.OwnFile.{OwnFile}

-- a handler wanted memory at the last of these messages, if at all: it wanted none when it had
-- handled those in front of that. `Handled` says what messages made of it, and of what it changes
-- beside itself
pub record WantsAtLast {T H : Type 0} (wanted : H → Bool) (Handled : List Message → T → H → T → H
    → Type 0)
    (messages : List Message) (beside : T) (was : H) : Type 0 where
  pub front : List Message
  pub last : List Message
  pub all : messages ≡ front ++ last
  pub one : length last ≤ 1
  pub then_beside : T
  pub then_is : H
  pub handled : Handled front beside was then_beside then_is
  pub fed : wanted then_is ≡ false

-- the end of one of these files tells of want of memory
abbrev pub TellsOfWant : {S : Type 0} → List (OwnFile S) → Type 0
TellsOfWant {S} files =
    (at : ℕ) × (at < length files)
    × ((d : OwnFile S) → (slice_index_or files at d).end ≡ Stopped NoMemory)
