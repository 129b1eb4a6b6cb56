-- What the lines behind a fault's line say: which text is meant by a name that stands in it.
use Rattle.std.specs.Prelude.{ℕ, ◌-◌, ◌/◌, ◌%◌, ◌||◌, ◌==◌, Bool, nat_lt, not, List, [], ◌∷◌}
use Rattle.std.specs.Prelude.{◌++◌, Option, Some, None, Result, Ok, Err, codes, flat_map, slice_get}
use Rattle.std.specs.Prelude.{if◌then◌else◌}
use Rattle.std.specs.Option.{option_and_then}
use Rattle.scq_judge.specs.Telling.{hex_digit}
use Rattle.scq_judge.specs.declared.judging.JudgeFault.{JudgeFault}
use Rattle.scq_judge.specs.declared.judging.JudgeFault.TheVariants as judge
use Rattle.scq_outside.specs.declared.cause.Cause.{Cause}
use Rattle.scq_outside.specs.declared.cause.Cause.TheVariants.{NotFound, PermissionDenied}
use Rattle.scq_outside.specs.declared.cause.Cause.TheVariants.{NotADirectory, IsADirectory}
use Rattle.scq_outside.specs.declared.cause.Cause.TheVariants.{FilesystemLoop, InvalidFilename}
use Rattle.scq_outside.specs.declared.cause.Cause.TheVariants.{InvalidInput, StaleNetworkFileHandle}
use Rattle.scq_outside.specs.declared.cause.Cause.TheVariants.{WouldBlock, ConnectionReset}
use Rattle.scq_outside.specs.declared.cause.Cause.TheVariants.{TimedOut, BrokenPipe, StorageFull}
use Rattle.scq_outside.specs.declared.cause.Cause.TheVariants.{QuotaExceeded, FileTooLarge}
use Rattle.scq_outside.specs.declared.cause.Cause.TheVariants.{ReadOnlyFilesystem, ResourceBusy}
use Rattle.scq_outside.specs.declared.cause.Cause.TheVariants.{OutOfMemory}
use Rattle.scq_words.specs.Exports.{run, generated, judged, whole, staged, option_text}
use Rattle.scq_words.specs.Exports.{is_command}
use Rattle.scq_words.specs.Asked.{Asked}
use Rattle.scq_words.specs.declared.fault.WordsFault.{WordsFault}
use Rattle.scq_words.specs.declared.fault.WordsFault.TheVariants.{NotUnderstood, Workers, Order}
use Rattle.scq_words.specs.declared.fault.WordsFault.TheVariants.{Size, Topics, Seed, Lines, Room}
use Rattle.scq_service.specs.Faults.{file_line}
use Rattle.scq_service.specs.declared.fault.Fault.{Fault}
use Rattle.scq_service.specs.declared.fault.Fault.TheVariants.{Words, OpenFault, ReadFault, TooLong}
use Rattle.scq_service.specs.declared.fault.Fault.TheVariants.{TooLarge, BadLineOf, SharedOf}
use Rattle.scq_service.specs.declared.fault.Fault.TheVariants.{TwoRunsOf, UnlawfulOf, WriteFault}

-- a byte that is written as it is: none of ASCII's control characters, nor the backslash
abbrev pub is_plain : ℕ → Bool
is_plain byte = not (nat_lt byte 32 || byte == 92 || byte == 127)

-- a byte as it is written: as it is, or as `\x` and two digits
abbrev pub shown_byte : ℕ → List ℕ
shown_byte byte =
    if is_plain byte then byte ∷ []
    else 92 ∷ 120 ∷ hex_digit (byte / 16) ∷ hex_digit (byte % 16) ∷ []

-- a text as it is written
abbrev pub shown : List ℕ → List ℕ
shown text = flat_map shown_byte text

-- ` is TEXT`, and the same behind a name
abbrev pub text_is : List ℕ → List ℕ
text_is text = codes " is " ++ (shown text ++ codes "\n")

abbrev pub is_line : List ℕ → List ℕ → List ℕ
is_line name text = name ++ text_is text

-- `file F is NAME`, where it is one of these
abbrev pub name_of : Option (List ℕ) → ℕ → List ℕ
name_of None file = []
name_of (Some name) file = file_line file [] ++ text_is name

abbrev pub name_line : List (List ℕ) → ℕ → List ℕ
name_line names file = name_of (slice_get names (file - 1)) file

-- the names of the files that are asked for, in their order
abbrev pub files_asked : Result Asked WordsFault → List (List ℕ)
files_asked (Err fault) = []
files_asked (Ok (run a)) = a.files
files_asked (Ok (generated a)) = []
files_asked (Ok (judged a)) = a.files
files_asked (Ok (whole a)) = a.file ∷ []
files_asked (Ok (staged a)) = a.files

-- `NAME is TEXT`, where the option is given
abbrev pub option_is : List ℕ → Option (List ℕ) → List ℕ
option_is name None = []
option_is name (Some text) = is_line name text

abbrev pub option_line : List ℕ → List ℕ → List (List ℕ) → List ℕ
option_line name option words = option_is name (option_text option words)

-- the first word, where it is no command
abbrev pub word_line : Bool → List ℕ → List ℕ
word_line run_alone word =
    if is_command run_alone word then [] else is_line (codes "word 1") word

abbrev pub command_line : Bool → List (List ℕ) → List ℕ
command_line run_alone [] = []
command_line run_alone (word ∷ words) = word_line run_alone word

-- the line behind that of refused words: the text of the option that was tested
abbrev pub words_lines : Bool → List (List ℕ) → WordsFault → List ℕ
words_lines run_alone words NotUnderstood = command_line run_alone words
words_lines run_alone words Workers = option_line (codes "workers") (codes "--workers") words
words_lines run_alone words Order = option_line (codes "order") (codes "--order") words
words_lines run_alone words Size = option_line (codes "size") (codes "--size") words
words_lines run_alone words (Topics fault) = option_line (codes "topics") (codes "--topics") words
words_lines run_alone words Seed = option_line (codes "seed") (codes "--seed") words
words_lines run_alone words Lines = option_line (codes "lines") (codes "--lines") words
words_lines run_alone words Room = option_line (codes "room") (codes "--room") words
words_lines run_alone words _ = []

-- the lines behind that of a fault, by the words and by the names of the files that they ask for:
-- for each file that it numbers, its name
abbrev pub fault_lines : Bool → List (List ℕ) → List (List ℕ) → Fault → List ℕ
fault_lines run_alone words names (Words fault) = words_lines run_alone words fault
fault_lines run_alone words names (OpenFault file) = name_line names file
fault_lines run_alone words names (ReadFault file) = name_line names file
fault_lines run_alone words names (TooLong file line len limit) = name_line names file
fault_lines run_alone words names (TooLarge file limit) = name_line names file
fault_lines run_alone words names (BadLineOf file line) = name_line names file
fault_lines run_alone words names (SharedOf what file line other_file other_line) =
    name_line names file ++ name_line names other_file
fault_lines run_alone words names (TwoRunsOf file number other_file other_number) =
    name_line names file ++ name_line names other_file
fault_lines run_alone words names (UnlawfulOf file line) = name_line names file
fault_lines run_alone words names _ = []

-- what the source of a file says that its last read failed by
abbrev pub source_cause : {S : Type 0} → (S → Option Cause) → List S → ℕ → Option Cause
source_cause cause sources file = option_and_then cause (slice_get sources (file - 1))

-- what the object that a run ended by says of it: the files, where one was not got; the source of a
-- file, where a read failed; the sink, where a write did
abbrev pub cause_told : {S : Type 0} → (S → Option Cause) → List S → Option Cause → Option Cause
    → Option Fault → Option Cause
cause_told cause sources files sink (Some (OpenFault file)) = files
cause_told cause sources files sink (Some (ReadFault file)) = source_cause cause sources file
cause_told cause sources files sink (Some WriteFault) = sink
cause_told cause sources files sink end = None

-- what the source of a recording says, where this is a read of it that failed
abbrev pub cause_of_read : Option Cause → JudgeFault → Option Cause
cause_of_read cause (judge.ReadFault file) = cause
cause_of_read cause fault = None

-- what the sink of a report says, where a write to it failed
abbrev pub cause_of_write : Option Cause → Option Fault → Option Cause
cause_of_write cause (Some WriteFault) = cause
cause_of_write cause end = None

-- the words of a cause
abbrev pub cause_words : Cause → List ℕ
cause_words NotFound = codes "not found"
cause_words PermissionDenied = codes "permission denied"
cause_words NotADirectory = codes "not a directory"
cause_words IsADirectory = codes "a directory"
cause_words FilesystemLoop = codes "filesystem loop"
cause_words InvalidFilename = codes "invalid filename"
cause_words InvalidInput = codes "invalid input"
cause_words StaleNetworkFileHandle = codes "stale network file handle"
cause_words WouldBlock = codes "operation would block"
cause_words ConnectionReset = codes "connection reset"
cause_words TimedOut = codes "timed out"
cause_words BrokenPipe = codes "broken pipe"
cause_words StorageFull = codes "no storage space"
cause_words QuotaExceeded = codes "quota exceeded"
cause_words FileTooLarge = codes "file too large"
cause_words ReadOnlyFilesystem = codes "read-only filesystem"
cause_words ResourceBusy = codes "resource busy"
cause_words OutOfMemory = codes "out of memory"

-- `cause is WORDS`, where it is known
abbrev pub cause_line : Option Cause → List ℕ
cause_line None = []
cause_line (Some cause) = is_line (codes "cause") (cause_words cause)

-- the lines behind that of a fault, with its cause
abbrev pub caused_lines : Bool → List (List ℕ) → List (List ℕ) → Option Cause → Fault → List ℕ
caused_lines run_alone words names cause fault =
    fault_lines run_alone words names fault ++ cause_line cause

-- the same by what is asked; `run_alone` says that no other command is understood
abbrev pub lines_behind : Bool → List (List ℕ) → Result Asked WordsFault → Option Cause → Fault
    → List ℕ
lines_behind run_alone words asked cause fault =
    caused_lines run_alone words (files_asked asked) cause fault
