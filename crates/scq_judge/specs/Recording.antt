-- What the texts of recordings say: the opening tokens, and the events of all files, one file after
-- the other
use Rattle.std.specs.Prelude.{ℕ, ◌+◌, Bool, true, false, ◌==◌, nat_lt, List, [], ◌∷◌, ◌++◌, Option}
use Rattle.std.specs.Prelude.{Some, None, Result, Ok, Err, if◌then◌else◌, All}
use Rattle.scq_lines.specs.Exports.{lines_of}
use Rattle.scq_hist.specs.declared.events.Event.{Event}
use Rattle.scq_judge.specs.Entry.{said_by}
use Rattle.scq_judge.specs.Files.{IsFile}
use Rattle.scq_judge.specs.declared.entry.Entry.{Entry}
use Rattle.scq_judge.specs.declared.entry.Entry.TheVariants.{Run, Opening, Happens}
use Rattle.scq_judge.specs.declared.recorded.Last.{Last}
use Rattle.scq_judge.specs.declared.recorded.Last.TheVariants.{NoEvent, Headed, Bare, Stamp}
use Rattle.scq_judge.specs.declared.recorded.Place.{Place}
use Rattle.scq_judge.specs.declared.recorded.RunOf.{RunOf}
use Rattle.scq_judge.specs.declared.recorded.Stamped.{Stamped}

-- what has been read: of which run each file is that says so, the opening tokens, the events, and
-- of the file that is being read what stood in front of its last event
pub record Recording : Type 0 where
  pub runs : List RunOf
  pub opening : List (List ℕ)
  pub events : List Stamped
  pub last : Last

-- before the first file
abbrev pub nothing : Recording
nothing = record { runs = []; opening = []; events = []; last = NoEvent }

-- whether an entry may follow in the file of this number. Opening tokens stand at the head of file
-- 1, and then the run's number, once, before the file's events; stamps rise; events without stamps
-- are those of a lone file, which has no others
abbrev pub entry_may_follow : ℕ → Bool → Last → Entry → Bool
entry_may_follow file lone NoEvent (Run number) = true
entry_may_follow file lone NoEvent (Opening content) = file == 1
entry_may_follow file lone NoEvent (Happens None event) = lone
entry_may_follow file lone NoEvent (Happens (Some stamp) event) = true
entry_may_follow file lone Headed (Happens None event) = lone
entry_may_follow file lone Headed (Happens (Some stamp) event) = true
entry_may_follow file lone Bare (Happens None event) = true
entry_may_follow file lone (Stamp last) (Happens (Some stamp) event) = nat_lt last stamp
entry_may_follow file lone _ _ = false

-- an event of this file and line. The numbers of their lines are the stamps of events without any
abbrev pub event_with : ℕ → ℕ → Option ℕ → Event → Stamped
event_with file line (Some stamp) event =
    record { stamp = stamp; place = record { file = file; line = line }; event = event }
event_with file line None event =
    record { stamp = line; place = record { file = file; line = line }; event = event }

abbrev pub last_of : Option ℕ → Last
last_of (Some stamp) = Stamp stamp
last_of None = Bare

-- with what the line of this number says
abbrev pub with_entry : ℕ → ℕ → Recording → Entry → Recording
with_entry file line r (Run number) =
    record r { runs = r.runs ++ (record { file = file; number = number }) ∷ []; last = Headed }
with_entry file line r (Opening content) = record r { opening = r.opening ++ content ∷ [] }
with_entry file line r (Happens stamp event) =
    record r { events = r.events ++ event_with file line stamp event ∷ []; last = last_of stamp }

abbrev pub after_entry : ℕ → Bool → ℕ → Recording → Option Entry → Option Recording
after_entry file lone line r None = None
after_entry file lone line r (Some entry) =
    if entry_may_follow file lone r.last entry then Some (with_entry file line r entry) else None

-- after a line, or none where it isn't understood there
abbrev pub after_line : ℕ → Bool → ℕ → Recording → List ℕ → Option Recording
after_line file lone number r line = after_entry file lone number r (said_by line)

-- goes on after a line that is understood
abbrev pub if_read : {A : Type 0} → ℕ → Option Recording → (Recording → Result A ℕ) → Result A ℕ
if_read number (Some r) more = more r
if_read number None more = Err number

-- after these lines, which follow so many of their file; or the number of the first that isn't
-- understood
abbrev pub after_lines : ℕ → Bool → ℕ → Recording → List (List ℕ) → Result Recording ℕ
after_lines file lone number r [] = Ok r
after_lines file lone number r (line ∷ lines) =
    if_read (number + 1) (after_line file lone (number + 1) r line) (λ next.
    after_lines file lone (number + 1) next lines)

-- after a file of this content
abbrev pub after_file : ℕ → Bool → Recording → List ℕ → Result Recording ℕ
after_file file lone r content =
    after_lines file lone 0 (record r { last = NoEvent }) (lines_of content)

-- goes on after a file that is understood
abbrev pub if_file : {A : Type 0} → ℕ → Result Recording ℕ → (Recording → Result A Place)
    → Result A Place
if_file file (Ok r) more = more r
if_file file (Err line) more = Err (record { file = file; line = line })

-- after files of these contents, of which the first has this number; or the first line that isn't
-- understood
abbrev pub after_files : Bool → ℕ → Recording → List (List ℕ) → Result Recording Place
after_files lone file r [] = Ok r
after_files lone file r (content ∷ contents) =
    if_file file (after_file file lone r content) (λ next.
    after_files lone (file + 1) next contents)

-- the recording of files with these contents, of which the first has number 1. A lone file may be
-- without stamps
abbrev pub recording_of : Bool → List (List ℕ) → Result Recording Place
recording_of lone contents = after_files lone 1 nothing contents

-- For private calls: each event is of one of so many files, and so is each number of a run
abbrev pub EventsAreOfFiles : ℕ → List Stamped → Type 0
EventsAreOfFiles count events = All (λ s. IsFile count s.place.file) events

pub record AllAreOfFiles (count : ℕ) (r : Recording) : Type 0 where
  pub runs : All (λ run. IsFile count run.file) r.runs
  pub events : EventsAreOfFiles count r.events
