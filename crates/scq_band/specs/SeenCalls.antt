-- What a caller has seen says of the order of calls in the one run behind them.
use Rattle.std.specs.Prelude.{◌≡◌, ℕ, ◌+◌, ◌<◌, List, length, Some, slice_get}
use Rattle.std.specs.List.{Contains}
use Rattle.scq_word.specs.declared.setup.Setup.{Setup}
use Rattle.scq_law.specs.Exports.{EndedBefore, IsOneOrder, run_of, IsPrefix}
use Rattle.scq_law.specs.RunSteps.{Run}
use Rattle.scq_law.specs.declared.ordered.Ordered.{Ordered}
use Rattle.scq_law.specs.declared.ordered.Ordered.TheVariants.{Call}
use Rattle.scq_band.specs.RunSeen.{Caller, IsCallInRun, HasSeenCalls}
use Rattle.scq_band.specs.Closing.{IsOneRun}

-- each step of the one call was made before each of the other, and in each ring's order that has
-- both it stands before it
pub record ComesFirst (run : Run) (seat call k x : ℕ) : Type 0 where
  pub ended : EndedBefore run seat call k x
  pub in_order : (r : ℕ) (order : List Ordered) (a b : ℕ) → IsOneOrder run r order
      → slice_get order a ≡ Some (Call seat (call + 1))
      → slice_get order b ≡ Some (Call k (x + 1)) → a < b

-- where a caller had seen the very run that a call left behind it, and then began one of its own,
-- that call comes before its own in the one run behind all calls
abbrev pub EachSeenCallComesFirst : Type 0
EachSeenCallComesFirst =
    (c : Setup) (opening : List (List ℕ)) (callers : List Caller) (a now b later : Caller)
    (all : IsOneRun c opening callers)
    (one : IsCallInRun c opening a now) (other : IsCallInRun c opening b later)
    → length now.calls ≡ length a.calls + 1
    → Contains b.seen.runs one.after → IsPrefix other.after all.steps
    → ComesFirst (run_of c opening all.steps) a.seat (length a.calls) b.seat (length b.calls)

-- a call of any seat, ended in a run that a caller had seen when it began one of its own, comes
-- before that one in the one run behind all calls: by whatever the caller saw that run, a call or a
-- reading of its own, a look, a mark or a note
abbrev pub EachCallInARunSeenComesFirst : Type 0
EachCallInARunSeenComesFirst =
    (c : Setup) (opening : List (List ℕ)) (callers : List Caller) (b later : Caller) (seat call : ℕ)
    (all : IsOneRun c opening callers) (other : IsCallInRun c opening b later)
    → HasSeenCalls c opening b.seen seat (call + 1) → IsPrefix other.after all.steps
    → ComesFirst (run_of c opening all.steps) seat call b.seat (length b.calls)
