-- What the program ends with.
use Rattle.std.specs.Prelude.{ℕ, ◌-◌, ◌^◌, List, ◌++◌, Option, Some, None, codes, decimal}
use Rattle.scq_topics.specs.declared.topics.TopicFault.{TopicFault}
use Rattle.scq_topics.specs.declared.topics.TopicFault.TheVariants.{TooMany, BadName, BadKind}
use Rattle.scq_topics.specs.declared.topics.TopicFault.TheVariants.{Twice}
use Rattle.scq_words.specs.declared.fault.WordsFault.{WordsFault}
use Rattle.scq_words.specs.declared.fault.WordsFault.TheVariants.{NotUnderstood, Workers, Order}
use Rattle.scq_words.specs.declared.fault.WordsFault.TheVariants.{Size, Topics, TooManyFiles}
use Rattle.scq_words.specs.declared.fault.WordsFault.TheVariants.{TooManyRecordings, NoName, Seed}
use Rattle.scq_words.specs.declared.fault.WordsFault.TheVariants.{Lines, Room}
use Rattle.scq_desk.specs.declared.fault.EndFault.{EndFault}
use Rattle.scq_desk.specs.declared.fault.EndFault.TheVariants as work
use Rattle.scq_service.specs.declared.fault.Fault.{Fault}
use Rattle.scq_service.specs.declared.fault.Fault.TheVariants.{Words, OpenFault, ReadFault, TooLong}
use Rattle.scq_service.specs.declared.fault.Fault.TheVariants.{TooLarge, WriteFault, BadLine}
use Rattle.scq_service.specs.declared.fault.Fault.TheVariants.{NotEnabled, Unlawful, Unfinished}
use Rattle.scq_service.specs.declared.fault.Fault.TheVariants.{BadLineOf, SharedOf, TwoRunsOf}
use Rattle.scq_service.specs.declared.fault.Fault.TheVariants.{UnlawfulOf, AspectFails, NotTested}
use Rattle.scq_service.specs.declared.fault.Fault.TheVariants.{NotLinearizable, NeverEnded}
use Rattle.scq_service.specs.declared.fault.Fault.TheVariants.{NotFound, NoMemory}
use Rattle.scq_outside.specs.declared.read_all_fault.ReadAllFault.{ReadAllFault}
use Rattle.scq_outside.specs.declared.read_all_fault.ReadAllFault.TheVariants as whole
use Rattle.scq_check.specs.declared.history.HistoryFault.{HistoryFault}
use Rattle.scq_check.specs.declared.history.HistoryFault.TheVariants as history
use Rattle.scq_judge.specs.declared.judging.JudgeFault.{JudgeFault}
use Rattle.scq_judge.specs.declared.judging.Shared.{Shared}
use Rattle.scq_judge.specs.declared.judging.Shared.TheVariants.{Stamp, Seat}
use Rattle.scq_judge.specs.declared.judging.JudgeFault.TheVariants as judge
use Rattle.scq_replay.specs.declared.replaying.ScheduleFault.{ScheduleFault}
use Rattle.scq_replay.specs.declared.replaying.ScheduleFault.TheVariants as schedule

-- the status of each fault
abbrev pub status_of_fault : Fault → ℕ
status_of_fault (TooLong file line len limit) = 1
status_of_fault (Words fault) = 2
status_of_fault (OpenFault file) = 3
status_of_fault (ReadFault file) = 3
status_of_fault (TooLarge file limit) = 6
status_of_fault WriteFault = 4
status_of_fault (BadLine line) = 8
status_of_fault (NotEnabled line) = 9
status_of_fault (Unlawful line) = 10
status_of_fault (Unfinished seat) = 11
status_of_fault (BadLineOf file line) = 8
status_of_fault (SharedOf what file line other_file other_line) = 8
status_of_fault (TwoRunsOf file run other_file other_run) = 8
status_of_fault (UnlawfulOf file line) = 10
status_of_fault AspectFails = 12
status_of_fault NotTested = 13
status_of_fault NotLinearizable = 12
status_of_fault NeverEnded = 11
status_of_fault NotFound = 14
status_of_fault NoMemory = 5

-- the status that the program ends with
abbrev pub status_of : Option Fault → ℕ
status_of None = 0
status_of (Some fault) = status_of_fault fault

-- what is said of a file, and of an entry of the topics
abbrev pub file_line : ℕ → List ℕ → List ℕ
file_line file what = codes "file " ++ decimal file ++ what

abbrev pub entry_line : ℕ → List ℕ → List ℕ
entry_line at what = codes "topics entry " ++ decimal at ++ what

-- the line about refused topics
abbrev pub topics_line : TopicFault → List ℕ
topics_line (TooMany at) = entry_line at (codes ": too many\n")
topics_line (BadName at) = entry_line at (codes ": bad name\n")
topics_line (BadKind at) = entry_line at (codes ": bad kind\n")
topics_line (Twice at) = entry_line at (codes ": named twice\n")

-- the line about refused words
abbrev pub words_line : WordsFault → List ℕ
words_line NotUnderstood = codes "words not understood\n"
words_line Workers = codes "workers is not in 1..4096\n"
words_line Order = codes "order is not in 1..12\n"
words_line Size = codes "size is not in 1..65536\n"
words_line (Topics fault) = topics_line fault
words_line TooManyFiles = codes "more than 64 files\n"
words_line TooManyRecordings = codes "more than 4096 files\n"
words_line (NoName file) = file_line file (codes " has no name\n")
words_line Seed = codes "seed is not in 0..2147483647\n"
words_line Lines = codes "lines is not in 1..1000000\n"
words_line Room = codes "room is not in 1..4294967295\n"

-- `X bytes, limit S`, and the same after the line's number
abbrev pub limit_line : ℕ → ℕ → List ℕ
limit_line len limit = (decimal len ++ codes " bytes, limit ") ++ (decimal limit ++ codes "\n")

abbrev pub payload_line : ℕ → ℕ → ℕ → List ℕ
payload_line line len limit = (decimal line ++ codes ": payload of ") ++ limit_line len limit

-- what is said of a line of a history or schedule
abbrev pub text_line : ℕ → List ℕ → List ℕ
text_line line what = codes "line " ++ decimal line ++ what

-- what is said of a line of a recording
abbrev pub place_line : ℕ → ℕ → List ℕ → List ℕ
place_line file line what = file_line file (codes " line ") ++ (decimal line ++ what)

-- what is said of a file and of the run that it is of
abbrev pub run_line : ℕ → ℕ → List ℕ → List ℕ
run_line file run what = file_line file (codes " is of run ") ++ (decimal run ++ what)

-- what is said of a seat of a schedule
abbrev pub seat_line : ℕ → List ℕ → List ℕ
seat_line seat what = codes "seat " ++ decimal seat ++ what

-- what an event shares with another
abbrev pub shared_words : Shared → List ℕ
shared_words Stamp = codes ": same stamp as "
shared_words Seat = codes ": same seat as "

-- the line about a fault
abbrev pub fault_line : Fault → List ℕ
fault_line (Words fault) = words_line fault
fault_line (OpenFault file) = file_line file (codes ": cannot open\n")
fault_line (ReadFault file) = file_line file (codes ": read fault\n")
fault_line (TooLong file line len limit) =
    file_line file (codes " line ") ++ payload_line line len limit
fault_line (TooLarge file limit) =
    file_line file (codes ": more than ") ++ (decimal limit ++ codes " bytes\n")
fault_line WriteFault = codes "write fault\n"
fault_line (BadLine line) = text_line line (codes ": not understood\n")
fault_line (NotEnabled line) = text_line line (codes ": step not enabled\n")
fault_line (Unlawful line) = text_line line (codes ": event out of place\n")
fault_line (Unfinished seat) = seat_line seat (codes ": call not ended\n")
fault_line (BadLineOf file line) = place_line file line (codes ": not understood\n")
fault_line (SharedOf what file line other_file other_line) =
    place_line file line (shared_words what) ++ place_line other_file other_line (codes "\n")
fault_line (TwoRunsOf file run other_file other_run) =
    run_line file run (codes ", ") ++ run_line other_file other_run (codes "\n")
fault_line (UnlawfulOf file line) = place_line file line (codes ": event out of place\n")
fault_line AspectFails = codes "an aspect fails\n"
fault_line NotTested = codes "an aspect was not tested\n"
fault_line NotLinearizable = codes "not linearizable\n"
fault_line NeverEnded = codes "calls never ended\n"
fault_line NotFound = codes "no order found\n"
fault_line NoMemory = codes "out of memory\n"

-- a fault of the workers, where a payload may have `size` bytes
abbrev pub fault_of_work : ℕ → EndFault → Fault
fault_of_work size (work.Read file) = ReadFault file
fault_of_work size (work.TooLong file line len) = TooLong file line len size
fault_of_work size (work.TooLarge file bytes) = TooLarge file (2 ^ 30)
fault_of_work size work.NoMemory = NoMemory

-- the number of bytes that were read of a file that is too large, and 0 at the workers' other
-- faults
abbrev pub bytes_of_large : EndFault → ℕ
bytes_of_large (work.TooLarge file bytes) = bytes
bytes_of_large _ = 0

-- a fault of the one whole file
abbrev pub fault_of_text : ReadAllFault → Fault
fault_of_text whole.ReadFault = ReadFault 1
fault_of_text (whole.TooLarge bytes) = TooLarge 1 (2 ^ 24)
fault_of_text whole.NoMemory = NoMemory

abbrev pub bytes_of_large_text : ReadAllFault → ℕ
bytes_of_large_text (whole.TooLarge bytes) = bytes
bytes_of_large_text _ = 0

-- a fault of a history's text, and of a schedule's
abbrev pub fault_of_history : HistoryFault → Fault
fault_of_history (history.BadLine line) = BadLine line
fault_of_history (history.Unlawful line) = Unlawful line
fault_of_history history.NoMemory = NoMemory

abbrev pub fault_of_schedule : ScheduleFault → Fault
fault_of_schedule (schedule.BadLine line) = BadLine line
fault_of_schedule (schedule.NotEnabled line) = NotEnabled line
fault_of_schedule (schedule.Unfinished seat) = Unfinished seat
fault_of_schedule schedule.NoMemory = NoMemory

-- a fault of recordings
abbrev pub fault_of_judge : JudgeFault → Fault
fault_of_judge (judge.BadLine file line) = BadLineOf file line
fault_of_judge (judge.Shared what file line other_file other_line) =
    SharedOf what file line other_file other_line
fault_of_judge (judge.TwoRuns file run other_file other_run) =
    TwoRunsOf file run other_file other_run
fault_of_judge (judge.Unlawful file line) = UnlawfulOf file line
fault_of_judge (judge.ReadFault file) = ReadFault file
fault_of_judge (judge.TooLarge file) = TooLarge file (2 ^ 31 - 2)
fault_of_judge judge.NoMemory = NoMemory
