-- What is reported of workers: a line for each, and one for all of them together.
use Rattle.std.specs.Prelude.{ℕ, ◌+◌, Bool, true, false, List, [], ◌∷◌, ◌++◌, Option, Some, None}
use Rattle.std.specs.Prelude.{Result, Ok, codes, decimal, filter, length, sum_by}
use Rattle.std.specs.List.{zip}
use Rattle.scq_collect.specs.declared.answered.Answered.{Answered}
use Rattle.scq_queue.specs.declared.counts.Counts.{Counts}
use Rattle.scq_words.specs.Asked.{Asked}
use Rattle.scq_words.specs.Asked as asks
use Rattle.scq_words.specs.declared.fault.WordsFault.{WordsFault}
use Rattle.scq_work.specs.declared.worked.Worked.{Worked}
use Rattle.scq_worker.specs.Exports.{is_direct}
use Rattle.scq_service.specs.Faults.{fault_line}
use Rattle.scq_service.specs.declared.fault.Fault.{Fault}

-- ` sent S taken T direct D`: how many buffers were sent and taken, and how many parts of messages
-- answered directly
abbrev pub counts_line : ℕ → ℕ → ℕ → List ℕ
counts_line sent taken direct =
    (codes " sent " ++ decimal sent)
    ++ ((codes " taken " ++ decimal taken) ++ ((codes " direct " ++ decimal direct) ++ codes "\n"))

-- how many parts were answered directly in a worker's list: those for which no buffer was free
abbrev pub directs_in : List Answered → ℕ
directs_in list = length (filter is_direct list)

-- the line of the worker with this number, by what it counted and by its list
abbrev pub worker_line : ℕ → Counts × List Answered → List ℕ
worker_line number w =
    (codes "worker " ++ decimal number) ++ counts_line w.0.sent w.0.taken (directs_in w.1)

-- the lines of workers of which the first has this number
abbrev pub worker_lines : ℕ → List (Counts × List Answered) → List ℕ
worker_lines number [] = []
worker_lines number (w ∷ more) = worker_line number w ++ worker_lines (number + 1) more

-- the line of all workers together
abbrev pub all_line : List Counts → List (List Answered) → List ℕ
all_line counts lists =
    codes "all" ++ counts_line (sum_by (λ c. c.sent) counts) (sum_by (λ c. c.taken) counts)
    (sum_by directs_in lists)

-- the lines of workers, numbered from 1, and behind them that of all
abbrev pub workers_report : List Counts → List (List Answered) → List ℕ
workers_report counts lists = worker_lines 1 (zip counts lists) ++ all_line counts lists

-- whether the words ask for the workers' lines
abbrev pub asks_report : Result Asked WordsFault → Bool
asks_report (Ok (asks.run a)) = a.report
asks_report asked = false

-- what is reported of the end: the fault's line and the lines behind it; or, where they are asked
-- for, the lines of the workers
abbrev pub reported : Bool → (Fault → List ℕ) → Option Fault → Option Worked → List ℕ
reported asks behind (Some fault) worked = fault_line fault ++ behind fault
reported true behind None (Some w) = workers_report w.counts.items w.answered.items
reported asks behind None worked = []
