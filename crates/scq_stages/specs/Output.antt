-- What one thread writes about the messages of some files, taken in order, once they went through
-- both stages.
use Rattle.std.specs.Prelude.{ℕ, ◌+◌, List, [], ◌∷◌, ◌++◌, length, map, codes, decimal, flat_map}
use Rattle.std.specs.Prelude.{sum_by, Vec}
use Rattle.std.specs.Global.{Global}
use Rattle.scq_frames.specs.Exports.{Framed, messages_of}
use Rattle.scq_stages.specs.Stages.{both}
use Rattle.scq_stages.specs.declared.finished.Finished.{Finished}

-- a message that is handled: its file and line, and what both stages leave of its payload
pub record Handled : Type 0 where
  pub file : ℕ
  pub line : ℕ
  pub payload : List ℕ

-- a message of this file, handled
abbrev pub handled_to : ℕ → Framed → Handled
handled_to file m = record { file = file; line = m.line; payload = both m.payload }

-- all messages of files with these contents, handled, of which the first has this number
abbrev pub all_handled : ℕ → List (List ℕ) → List Handled
all_handled file [] = []
all_handled file (content ∷ more) =
    map (handled_to file) (messages_of content) ++ all_handled (file + 1) more

-- the line for one: `file:line bytes`
abbrev pub handled_line : Handled → List ℕ
handled_line r =
    decimal r.file ++ codes ":" ++ decimal r.line ++ codes " " ++ r.payload ++ codes "\n"

-- the last line: `total count bytes`
abbrev pub total_of_handled : List Handled → List ℕ
total_of_handled handled =
    codes "total " ++ decimal (length handled) ++ codes " "
    ++ decimal (sum_by (λ (r : Handled). length r.payload) handled) ++ codes "\n"

-- what is written of them
abbrev pub text_of_handled : List Handled → List ℕ
text_of_handled handled = flat_map handled_line handled ++ total_of_handled handled

-- what one thread writes about files with these contents
abbrev pub one_thread_stage_output : List (List ℕ) → List ℕ
one_thread_stage_output contents = text_of_handled (all_handled 1 contents)

-- a member without the way in which a worker came to it
abbrev pub without_way : Finished → Handled
without_way f = record { file = f.file; line = f.line; payload = f.payload }

-- the members of all lists, one list behind the other
abbrev pub finished_in : List (Vec Finished Global) → List Finished
finished_in lists = flat_map (λ list. list.items) lists

-- where a member stands: where its message does
abbrev pub position_of_finished : Finished → ℕ × ℕ × ℕ
position_of_finished f = (f.file, f.line, 1)

-- where a handled message stands
abbrev pub position_of_handled : Handled → ℕ × ℕ × ℕ
position_of_handled r = (r.file, r.line, 1)
