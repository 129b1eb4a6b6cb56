-- What a line of a recording says: the number of the run, an opening token, or an event with its
-- stamp in front, or with none
use Rattle.std.specs.Prelude.{ℕ, ◌-◌, ◌^◌, nat_le, List, [], ◌∷◌, Option, Some, None, length, codes}
use Rattle.std.specs.Prelude.{if◌then◌else◌}
use Rattle.std.specs.Option.{option_map}
use Rattle.std.specs.Str.{bytes_eq}
use Rattle.scq_lines.specs.Exports.{fields_of, number_of}
use Rattle.scq_check.specs.Exports.{said}
use Rattle.scq_check.specs.declared.line.Bounds.{Bounds}
use Rattle.scq_check.specs.declared.line.Line.{Line}
use Rattle.scq_check.specs.declared.line.Line.TheVariants as line
use Rattle.scq_judge.specs.declared.entry.Entry.{Entry}
use Rattle.scq_judge.specs.declared.entry.Entry.TheVariants.{Run, Opening, Happens}

-- seats, queues and numbers of opening tokens are below 2^32
abbrev pub wide : Bounds
wide = record { seat = 2 ^ 32 - 1; queue = 2 ^ 32 - 1; token = 2 ^ 32 - 1 }

-- a line without a stamp, and one whose stamp was read
abbrev pub without_stamp : Option Line → Option Entry
without_stamp (Some (line.Opening content)) = Some (Opening content)
without_stamp (Some (line.Happens event)) = Some (Happens None event)
without_stamp None = None

abbrev pub stamped : ℕ → Option Line → Option Entry
stamped stamp (Some (line.Happens event)) = Some (Happens (Some stamp) event)
stamped stamp _ = None

-- the number of the run, of `run R`
abbrev pub run_in : List (List ℕ) → Option Entry
run_in (number ∷ []) = option_map Run (number_of number)
run_in _ = None

-- a first field that is a number is a stamp
abbrev pub said_entry : Option ℕ → List ℕ → List (List ℕ) → Option Entry
said_entry None field more =
    if bytes_eq field (codes "run") then run_in more else without_stamp (said wide (field ∷ more))
said_entry (Some stamp) field more = stamped stamp (said wide more)

abbrev pub entry_of : List (List ℕ) → Option Entry
entry_of [] = None
entry_of (field ∷ more) = said_entry (number_of field) field more

-- the most bytes of a line, which is more than any line of the form has
abbrev pub most_line : ℕ
most_line = 1024

-- what a line says
abbrev pub said_by : List ℕ → Option Entry
said_by line = if nat_le (length line) most_line then entry_of (fields_of line) else None
