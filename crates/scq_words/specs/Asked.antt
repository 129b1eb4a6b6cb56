-- What the words of a command line ask for, or the first test that refuses them.
use Rattle.std.specs.Prelude.{ℕ, ◌+◌, ◌^◌, ◌==◌, Bool, true, false, nat_lt, min, string_bytes, List}
use Rattle.std.specs.Prelude.{[], ◌∷◌, ◌++◌, length, map, codes, Option, Some, None, option_map}
use Rattle.std.specs.Prelude.{unwrap_or, Result, Ok, Err, if◌then◌else◌, is_some, not, ◌&&◌, ◌||◌}
use Rattle.std.specs.List.{position}
use Rattle.std.specs.Option.{option_or}
use Rattle.std.specs.Str.{bytes_eq}
use Rattle.clap.specs.Words.{App, Row, all_of, first_of, matches_of, takes}
use Rattle.clap.specs.Faults.{fault_of}
use Rattle.scq_word.specs.Exports.{most_run_order}
use Rattle.scq_topics.specs.declared.kind.Kind.{Kind}
use Rattle.scq_topics.specs.Exports.{declared_by, entries_of, first_fault}
use Rattle.scq_words.specs.Commands.{run_app, stages_app, self_app, judge_app, text_app}
use Rattle.scq_words.specs.Numbers.{number_or, refused_outside}
use Rattle.scq_words.specs.declared.fault.WordsFault.{WordsFault}
use Rattle.scq_words.specs.declared.fault.WordsFault.TheVariants.{NotUnderstood, Workers, Order}
use Rattle.scq_words.specs.declared.fault.WordsFault.TheVariants.{Size, Topics, TooManyFiles}
use Rattle.scq_words.specs.declared.fault.WordsFault.TheVariants.{TooManyRecordings, NoName, Seed}
use Rattle.scq_words.specs.declared.fault.WordsFault.TheVariants.{Lines, Room}
use Rattle.scq_words.specs.declared.request.Request.{Request}
use Rattle.scq_words.specs.declared.request.Request.TheVariants.{Run, SelfRun, Judge, Text, Stages}
use Rattle.scq_words.specs.declared.request.JudgeRequest.{JudgeRequest}
use Rattle.scq_words.specs.declared.request.RunRequest.{RunRequest}
use Rattle.scq_words.specs.declared.request.SelfRequest.{SelfRequest}
use Rattle.scq_words.specs.declared.request.StagesRequest.{StagesRequest}
use Rattle.scq_words.specs.declared.text_request.TextCommand.{TextCommand}
use Rattle.scq_words.specs.declared.text_request.TextCommand.TheVariants.{Check, Replay}
use Rattle.scq_words.specs.declared.text_request.TextCommand.TheVariants.{Order as Ordering}
use Rattle.scq_words.specs.declared.text_request.TextRequest.{TextRequest}

-- the first fault of a list of tests
abbrev pub first_of_tests : List (Option WordsFault) → Option WordsFault
first_of_tests [] = None
first_of_tests (test ∷ tests) = option_or test (first_of_tests tests)

-- a test that refuses where this holds
abbrev pub refused_if : Bool → WordsFault → Option WordsFault
refused_if holds fault = if holds then Some fault else None

-- `clap` refuses the words, whatever the kind of its error
abbrev pub refused_by_clap : App → List (List ℕ) → Option WordsFault
refused_by_clap app words = refused_if (nat_lt 0 (length (fault_of app words))) NotUnderstood

-- the topics that a text declares, or none where none is given
abbrev pub topics_or_none : Option (List ℕ) → List (List ℕ × Kind)
topics_or_none None = []
topics_or_none (Some text) = map declared_by (entries_of text)

abbrev pub refused_topics : Option (List ℕ) → Option WordsFault
refused_topics None = None
refused_topics (Some text) = option_map Topics (first_fault [] (entries_of text))

-- the first file that is the empty text
abbrev pub refused_names : List (List ℕ) → Option WordsFault
refused_names files = option_map (λ at. NoName (at + 1)) (position (λ name. length name == 0) files)

-- how many workers there are: 4 or the number of buffers where none are given
abbrev pub workers_or : ℕ → Option (List ℕ) → ℕ
workers_or order text = number_or (min 4 (2 ^ order)) text

-- whether a flag is given, whose text is then `true`
abbrev pub is_given : Option (List ℕ) → Bool
is_given None = false
is_given (Some text) = bytes_eq text (codes "true")

-- what is asked of files
pub record RunAsked : Type 0 where
  pub workers : ℕ
  pub order : ℕ
  pub size : ℕ
  pub topics : List (List ℕ × Kind)
  pub batch : Bool
  pub report : Bool
  pub files : List (List ℕ)

-- what is asked of files whose messages go through two stages
pub record StagesAsked : Type 0 where
  pub workers : ℕ
  pub order : ℕ
  pub size : ℕ
  pub files : List (List ℕ)

-- what is asked of a generated file
pub record SelfAsked : Type 0 where
  pub seed : ℕ
  pub lines : ℕ
  pub workers : ℕ

-- what is asked of recordings, of queues that have room for so many values, where that is told, and
-- whether how it ends is to tell the verdict
pub record JudgeAsked : Type 0 where
  pub room : Option ℕ
  pub strict : Bool
  pub order : Bool
  pub files : List (List ℕ)

-- what is asked of one whole file
pub record TextAsked : Type 0 where
  pub command : TextCommand
  pub file : List ℕ

-- what is asked: `generated` of `self`, `judged` of `judge`, `whole` of `check` and `replay`,
-- `staged` of `stages`
pub data Asked : Type 0 where
  run : RunAsked → Asked
  generated : SelfAsked → Asked
  judged : JudgeAsked → Asked
  whole : TextAsked → Asked
  staged : StagesAsked → Asked

-- the texts of `run`'s arguments
pub record RunTexts : Type 0 where
  pub workers : Option (List ℕ)
  pub order : Option (List ℕ)
  pub size : Option (List ℕ)
  pub topics : Option (List ℕ)
  pub batch : Option (List ℕ)
  pub report : Option (List ℕ)
  pub files : List (List ℕ)

-- those of `stages`
pub record StagesTexts : Type 0 where
  pub workers : Option (List ℕ)
  pub order : Option (List ℕ)
  pub size : Option (List ℕ)
  pub files : List (List ℕ)

-- those of `self`
pub record SelfTexts : Type 0 where
  pub seed : Option (List ℕ)
  pub lines : Option (List ℕ)
  pub workers : Option (List ℕ)

-- those of `judge`
pub record JudgeTexts : Type 0 where
  pub room : Option (List ℕ)
  pub strict : Option (List ℕ)
  pub order : Option (List ℕ)
  pub files : List (List ℕ)

abbrev pub texts_of_run : Option (List ℕ) → Option (List ℕ) → Option (List ℕ) → Option (List ℕ)
    → Option (List ℕ) → Option (List ℕ) → List (List ℕ) → RunTexts
texts_of_run workers order size topics batch report files =
    record {
      workers = workers;
      order = order;
      size = size;
      topics = topics;
      batch =
          batch;
      report = report;
      files = files;
    }

abbrev pub texts_of_stages : Option (List ℕ) → Option (List ℕ) → Option (List ℕ) → List (List ℕ)
    → StagesTexts
texts_of_stages workers order size files =
    record { workers = workers; order = order; size = size; files = files }

abbrev pub texts_of_self : Option (List ℕ) → Option (List ℕ) → Option (List ℕ) → SelfTexts
texts_of_self seed lines workers = record { seed = seed; lines = lines; workers = workers }

abbrev pub run_texts : List Row → RunTexts
run_texts rows =
    texts_of_run (first_of (codes "workers") rows) (first_of (codes "order") rows)
    (first_of (codes "size") rows)
    (first_of (codes "topics") rows) (first_of (codes "batch") rows)
    (first_of (codes "report") rows)
    (unwrap_or (all_of (codes "files") rows) [])

abbrev pub stages_texts : List Row → StagesTexts
stages_texts rows =
    texts_of_stages (first_of (codes "workers") rows) (first_of (codes "order") rows)
    (first_of (codes "size") rows)
    (unwrap_or (all_of (codes "files") rows) [])

abbrev pub self_texts : List Row → SelfTexts
self_texts rows =
    texts_of_self (first_of (codes "seed") rows) (first_of (codes "lines") rows)
    (first_of (codes "workers") rows)

-- the tests of a run's numbers
abbrev pub numbers_tests : Option (List ℕ) → Option (List ℕ) → Option (List ℕ)
    → List (Option WordsFault)
numbers_tests workers order size =
    refused_outside 1 4096 Workers workers
    ∷ refused_outside 1 most_run_order Order order
    ∷ refused_outside 1 65536 Size size
    ∷ []

-- those of files, of which there are at most so many
abbrev pub files_tests : ℕ → WordsFault → List (List ℕ) → List (Option WordsFault)
files_tests most many files =
    refused_if (nat_lt most (length files)) many ∷ refused_names files ∷ []

-- those of `run`'s arguments, in order
abbrev pub run_tests : RunTexts → List (Option WordsFault)
run_tests t = numbers_tests t.workers t.order t.size ++ refused_topics t.topics
    ∷ files_tests 64 TooManyFiles t.files

-- those of `stages`: there are no topics to test
abbrev pub stages_tests : StagesTexts → List (Option WordsFault)
stages_tests t =
    numbers_tests t.workers t.order t.size ++ files_tests 64 TooManyFiles t.files

-- those of `self`, whose order is 6
abbrev pub self_tests : SelfTexts → List (Option WordsFault)
self_tests t =
    refused_outside 0 2147483647 Seed t.seed
    ∷ refused_outside 1 1000000 Lines t.lines
    ∷ refused_outside 1 4096 Workers t.workers
    ∷ []

-- the settings, where no test refuses
abbrev pub run_asked : RunTexts → RunAsked
run_asked t = record {
  workers = workers_or (number_or 6 t.order) t.workers;
  order = number_or 6 t.order;
  size = number_or 65536 t.size;
  topics = topics_or_none t.topics;
  batch = is_given t.batch;
  report = is_given t.report;
  files = t.files;
}

abbrev pub stages_asked : StagesTexts → StagesAsked
stages_asked t = record {
  workers = workers_or (number_or 6 t.order) t.workers;
  order = number_or 6 t.order;
  size = number_or 65536 t.size;
  files = t.files;
}

abbrev pub self_asked : SelfTexts → SelfAsked
self_asked t = record {
  seed = number_or 0 t.seed;
  lines = number_or 1 t.lines;
  workers = workers_or 6 t.workers;
}

-- what is asked, or the first fault
abbrev pub answered_by : Option WordsFault → Asked → Result Asked WordsFault
answered_by None what = Ok what
answered_by (Some fault) what = Err fault

unfoldable pub asked_of_run : List (List ℕ) → Result Asked WordsFault
asked_of_run words = let t = run_texts (matches_of run_app words) in
    answered_by (first_of_tests (refused_by_clap run_app words ∷ run_tests t)) (run (run_asked t))

unfoldable pub asked_of_stages : List (List ℕ) → Result Asked WordsFault
asked_of_stages words = let t = stages_texts (matches_of stages_app words) in
    answered_by (first_of_tests (refused_by_clap stages_app words ∷ stages_tests t))
    (staged (stages_asked t))

unfoldable pub asked_of_self : List (List ℕ) → Result Asked WordsFault
asked_of_self words = let t = self_texts (matches_of self_app words) in
    answered_by (first_of_tests (refused_by_clap self_app words ∷ self_tests t))
    (generated (self_asked t))

-- the name of the one file
abbrev pub text_file : List Row → List ℕ
text_file rows = unwrap_or (first_of (codes "file") rows) []

-- `replay` asks for orders where the flag is given
abbrev pub with_flag : TextCommand → Bool → TextCommand
with_flag Replay true = Ordering
with_flag command given = command

abbrev pub text_command : TextCommand → List Row → TextCommand
text_command command rows = with_flag command (is_given (first_of (codes "order") rows))

unfoldable pub asked_of_text : TextCommand → List (List ℕ) → Result Asked WordsFault
asked_of_text command words = let rows = matches_of (text_app command) words in let file =
    text_file rows in
    answered_by (first_of_tests (refused_by_clap (text_app command) words
    ∷ refused_names (file ∷ []) ∷ []))
    (whole (record { command = text_command command rows; file = file }))

abbrev pub texts_of_judge : Option (List ℕ) → Option (List ℕ) → Option (List ℕ) → List (List ℕ)
    → JudgeTexts
texts_of_judge room strict order files =
    record { room = room; strict = strict; order = order; files = files }

abbrev pub judge_texts : List Row → JudgeTexts
judge_texts rows =
    texts_of_judge (first_of (codes "room") rows) (first_of (codes "strict") rows)
    (first_of (codes "order") rows)
    (unwrap_or (all_of (codes "files") rows) [])

-- whether an order is asked for together with what is asked of a report
abbrev pub is_beside : Option (List ℕ) → Option (List ℕ) → Option (List ℕ) → Bool
is_beside room strict order = is_given order && (is_some room || is_given strict)

-- those of `judge`
abbrev pub judge_tests : JudgeTexts → List (Option WordsFault)
judge_tests t =
    refused_if (is_beside t.room t.strict t.order) NotUnderstood
    ∷ refused_outside 1 4294967295 Room t.room ∷ files_tests 4096 TooManyRecordings t.files

-- the room, where it is given
abbrev pub room_of : Option (List ℕ) → Option ℕ
room_of None = None
room_of (Some text) = Some (number_or 0 (Some text))

abbrev pub judge_asked : JudgeTexts → JudgeAsked
judge_asked t = record {
  room = room_of t.room;
  strict = is_given t.strict;
  order = is_given t.order;
  files = t.files;
}

-- `clap` takes the words, and they stand together
abbrev pub judge_takes : List (List ℕ) → Bool
judge_takes words = let t = judge_texts (matches_of judge_app words) in
    takes judge_app words && not (is_beside t.room t.strict t.order)

unfoldable pub asked_of_judge : List (List ℕ) → Result Asked WordsFault
asked_of_judge words = let t = judge_texts (matches_of judge_app words) in
    answered_by (first_of_tests (refused_by_clap judge_app words ∷ judge_tests t))
    (judged (judge_asked t))

-- what the words ask for: the first is a command, and those after it are its arguments
abbrev pub asked : List (List ℕ) → Result Asked WordsFault
asked [] = Err NotUnderstood
asked (command ∷ words) =
    if bytes_eq command (codes "run") then asked_of_run words
    else if bytes_eq command (codes "self") then asked_of_self words
    else if bytes_eq command (codes "judge") then asked_of_judge words
    else if bytes_eq command (codes "check") then asked_of_text Check words
    else if bytes_eq command (codes "replay") then asked_of_text Replay words
    else if bytes_eq command (codes "stages") then asked_of_stages words
    else Err NotUnderstood

-- the same of a program that understands `run` alone
abbrev pub asked_for_run : List (List ℕ) → Result Asked WordsFault
asked_for_run [] = Err NotUnderstood
asked_for_run (command ∷ words) =
    if bytes_eq command (codes "run") then asked_of_run words else Err NotUnderstood

-- a request of the program as what is asked
abbrev pub asked_run : RunRequest → RunAsked
asked_run r = record {
  workers = r.workers;
  order = r.order;
  size = r.size;
  topics = r.topics;
  batch = r.batch;
  report = r.report;
  files = map string_bytes r.files.items;
}

abbrev pub stages_of : StagesRequest → StagesAsked
stages_of r = record {
  workers = r.workers;
  order = r.order;
  size = r.size;
  files =
      map string_bytes r.files.items;
}

abbrev pub self_of : SelfRequest → SelfAsked
self_of r = record { seed = r.seed; lines = r.lines; workers = r.workers }

abbrev pub judge_of : JudgeRequest → JudgeAsked
judge_of r = record {
  room = r.room;
  strict = r.strict;
  order = r.order;
  files = map string_bytes r.files.items;
}

abbrev pub text_of : TextRequest → TextAsked
text_of r = record { command = r.command; file = string_bytes r.file }

abbrev pub asked_by : Request → Asked
asked_by (Run r) = run (asked_run r)
asked_by (SelfRun r) = generated (self_of r)
asked_by (Judge r) = judged (judge_of r)
asked_by (Text r) = whole (text_of r)
asked_by (Stages r) = staged (stages_of r)
