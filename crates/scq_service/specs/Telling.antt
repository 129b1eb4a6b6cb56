-- What the text of a file tells a command, line by line: what is to be written, or the first line
-- with a fault.
use Rattle.std.specs.Prelude.{◌≡◌, ℕ, List, Result, Ok, Err}
use Rattle.scq_check.specs.Exports.{tokens_in, events_in, IsHistory, IsBadLine, IsUnlawfulLine}
use Rattle.scq_check.specs.Exports.{IsVerdictOf, verdict_lines}
use Rattle.scq_check.specs.declared.verdicts.Verdict.{Verdict}
use Rattle.scq_replay.specs.Exports.{IsOrderText, HasNoOrders, Gives}
use Rattle.scq_replay.specs.declared.replaying.ScheduleFault.TheVariants as schedule
use Rattle.scq_words.specs.declared.text_request.TextCommand.{TextCommand}
use Rattle.scq_words.specs.declared.text_request.TextCommand.TheVariants.{Check, Replay, Order}
use Rattle.scq_service.specs.declared.fault.Fault.{Fault}
use Rattle.scq_service.specs.declared.fault.Fault.TheVariants.{BadLine, NotEnabled, Unlawful}
use Rattle.scq_service.specs.declared.fault.Fault.TheVariants.{Unfinished}

-- the lines are a history, and the text is that of its verdict
pub record IsVerdictText (lines : List (List ℕ)) (text : List ℕ) : Type 0 where
  pub history : IsHistory lines
  pub verdict : Verdict
  pub judged : IsVerdictOf (tokens_in lines) (events_in lines) verdict
  pub said : text ≡ verdict_lines verdict

-- what the lines tell a command
abbrev pub Tells : TextCommand → List (List ℕ) → Result (List ℕ) Fault → Type 0
Tells Check lines (Ok text) = IsVerdictText lines text
Tells Check lines (Err (BadLine line)) = IsBadLine lines line
Tells Check lines (Err (Unlawful line)) = IsUnlawfulLine lines line
Tells Replay lines (Ok text) = Gives lines (Ok text)
Tells Replay lines (Err (BadLine line)) = Gives lines (Err (schedule.BadLine line))
Tells Replay lines (Err (NotEnabled line)) = Gives lines (Err (schedule.NotEnabled line))
Tells Order lines (Ok text) = IsOrderText lines text
Tells Order lines (Err (BadLine line)) = HasNoOrders lines (schedule.BadLine line)
Tells Order lines (Err (NotEnabled line)) = HasNoOrders lines (schedule.NotEnabled line)
Tells Order lines (Err (Unfinished seat)) = HasNoOrders lines (schedule.Unfinished seat)
Tells command lines (Err fault) = ⊥

-- the faults that a text may have for a command
abbrev pub IsOfText : TextCommand → Fault → Type 0
IsOfText Check (BadLine line) = Unit {0}
IsOfText Check (Unlawful line) = Unit {0}
IsOfText Replay (BadLine line) = Unit {0}
IsOfText Replay (NotEnabled line) = Unit {0}
IsOfText Order (BadLine line) = Unit {0}
IsOfText Order (NotEnabled line) = Unit {0}
IsOfText Order (Unfinished seat) = Unit {0}
IsOfText command fault = ⊥
