-- Which words `clap` takes, and in which ranges the settings are.
use Rattle.std.specs.Prelude.{ℕ, ◌<◌, ◌≤◌, Bool, false, List, [], ◌∷◌, length, codes, IfSome}
use Rattle.std.specs.Prelude.{if◌then◌else◌}
use Rattle.std.specs.List.{All}
use Rattle.std.specs.Str.{bytes_eq}
use Rattle.clap.specs.Words.{takes}
use Rattle.scq_word.specs.Exports.{most_run_order}
use Rattle.scq_words.specs.Commands.{run_app, stages_app, self_app, text_app}
use Rattle.scq_words.specs.Asked.{Asked, RunAsked, StagesAsked, SelfAsked, JudgeAsked, run}
use Rattle.scq_words.specs.Asked.{generated, judged, whole, staged, judge_takes}
use Rattle.scq_words.specs.declared.text_request.TextCommand.TheVariants.{Check, Replay}

-- the first word is a command, `clap` takes those after it as its arguments, and those of `judge`
-- stand together
abbrev pub is_accepted : List (List ℕ) → Bool
is_accepted [] = false
is_accepted (command ∷ words) =
    if bytes_eq command (codes "run") then takes run_app words
    else if bytes_eq command (codes "self") then takes self_app words
    else if bytes_eq command (codes "judge") then judge_takes words
    else if bytes_eq command (codes "check") then takes (text_app Check) words
    else if bytes_eq command (codes "replay") then takes (text_app Replay) words
    else if bytes_eq command (codes "stages") then takes stages_app words
    else false

-- the same where the command is `run`
abbrev pub is_taken_for_run : List (List ℕ) → Bool
is_taken_for_run [] = false
is_taken_for_run (command ∷ words) =
    if bytes_eq command (codes "run") then takes run_app words else false

-- the settings of a run are in their ranges, and each of its files has a name
pub record IsRunInRange (a : RunAsked) : Type 0 where
  pub order : (1 ≤ a.order) × (a.order ≤ most_run_order)
  pub workers : (1 ≤ a.workers) × (a.workers ≤ 4096)
  pub size : (1 ≤ a.size) × (a.size ≤ 65536)
  pub topics : length a.topics ≤ 16
  pub files : length a.files ≤ 64
  pub names : All (λ name. 0 < length name) a.files

-- those of stages are in the same ranges
pub record IsStagesInRange (a : StagesAsked) : Type 0 where
  pub order : (1 ≤ a.order) × (a.order ≤ most_run_order)
  pub workers : (1 ≤ a.workers) × (a.workers ≤ 4096)
  pub size : (1 ≤ a.size) × (a.size ≤ 65536)
  pub files : length a.files ≤ 64
  pub names : All (λ name. 0 < length name) a.files

-- those of `self`
pub record IsSelfInRange (a : SelfAsked) : Type 0 where
  pub seed : a.seed ≤ 2147483647
  pub lines : (1 ≤ a.lines) × (a.lines ≤ 1000000)
  pub workers : (1 ≤ a.workers) × (a.workers ≤ 4096)

-- recordings are at most 4,096 files, and each has a name; a room is one of values
pub record IsJudgeInRange (a : JudgeAsked) : Type 0 where
  pub room : IfSome a.room (λ n. (1 ≤ n) × (n ≤ 4294967295))
  pub files : length a.files ≤ 4096
  pub names : All (λ name. 0 < length name) a.files

abbrev pub IsInRange : Asked → Type 0
IsInRange (run a) = IsRunInRange a
IsInRange (generated a) = IsSelfInRange a
IsInRange (judged a) = IsJudgeInRange a
IsInRange (whole a) = 0 < length a.file
IsInRange (staged a) = IsStagesInRange a
