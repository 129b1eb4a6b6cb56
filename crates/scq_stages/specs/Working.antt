-- A worker's pass and its list, as its work goes on: while it reads its files, when it has moved
-- all that was in first, and behind its retirement.
use Rattle.std.specs.Prelude.{◌≡◌, ℕ, ◌+◌, ◌<◌, ◌≤◌, Bool, false, List, [], length, filter, Option}
use Rattle.std.specs.Prelude.{Some, None, IfSome}
use Rattle.std.specs.List.{Contains}
use Rattle.scq_law.specs.Exports.{tally, was_put}
use Rattle.scq_frames.specs.declared.message.Message.{Message}
use Rattle.scq_band.specs.Exports.{Identity}
use Rattle.scq_queue.specs.Exports.{Placed, sends_of, takes_of, PassStanding, HeldStanding}
use Rattle.scq_queue.specs.Exports.{known_on}
use Rattle.scq_files.specs.Exports.{StopsAtAFault, all_given, AreRead, SourceOf}
use Rattle.scq_files.specs.declared.own_file.OwnFile.{OwnFile}
use Rattle.scq_passes.specs.Exports.{IsBetweenParts, index_of, after_retire, calls_behind, on}
use Rattle.scq_passes.specs.Exports.{ArePassedOn, EachHasItsCall, HasSwept}
use Rattle.scq_desk.specs.GoingOn as going
use Rattle.scq_stages.specs.declared.finished.Finished.{Finished}
use Rattle.scq_stages.specs.Members.{is_second, is_first, is_direct, DirectsAre}
use Rattle.scq_stages.specs.Records.{first, second, is_next, HelpsJustSecondThenFirst}
use Rattle.scq_stages.specs.Records.{FoundFirstEmpty}
use Rattle.scq_stages.specs.Passing.{SendsToFirst, FinishesItself, IsNextOf}
use Rattle.scq_stages.specs.Steps.{SecondsSoFar, FirstsSoFar, MovesSoFar, HasGivenBack}

module _ {B : Type 0} where
  -- a pass has few calls for so many messages: at most one send to first and one Full for each, a
  -- send to second for each take from first, and a return for each take. `late` is 1 for one that
  -- met Spent. Ring 1 is first, and ring 2 is second
  pub record HasFewStageCalls (late messages : ℕ) (p : PassStanding B) : Type 0 where
    pub fulls : length p.fulls ≤ messages
    pub to_first : tally (was_put 1) p.calls ≤ messages + late
    pub sent_first : length (on first (sends_of p.calls)) ≤ messages
    pub to_second : tally (was_put 2) p.calls ≤ length (on first (takes_of p.calls)) + late
    pub sent : length (sends_of p.calls) ≤ messages + length (on first (takes_of p.calls))
    pub returns : tally (was_put 0) p.calls ≤ length (takes_of p.calls) + late

  -- the list of a worker that has not retired, against its pass and the messages that it passed on
  pub record HasListed (messages : List Message) (p : PassStanding B)
      (members : List Finished) : Type 0 where
    pub passed : ArePassedOn SendsToFirst FinishesItself messages (on first (sends_of p.calls))
        (filter is_direct members)
    pub seconds : SecondsSoFar (on second (takes_of p.calls)) (filter is_second members)
    pub firsts : filter is_first members ≡ []
    pub directs : DirectsAre p.fulls members

  -- a worker that has passed on these messages and goes on: its pass, which never asked whether all
  -- had retired, and unless it wanted memory its list
  pub record IsAtWork (messages : List Message) (p : PassStanding B) (members : List Finished)
      (starved : Bool) : Type 0 where
    pub helps : HelpsJustSecondThenFirst p.calls
    pub unasked : p.gates ≡ 0
    pub between : IsBetweenParts p
    pub few_calls : HasFewStageCalls 0 (length messages) p
    pub moves : MovesSoFar (on first (takes_of p.calls)) (on second (sends_of p.calls))
    pub follows : EachHasItsCall IsNextOf is_next messages p.calls
    pub listed : starved ≡ false → HasListed messages p members

  -- the pass of a worker that has moved all that was in first, and is about to retire; it never
  -- asked whether all had
  pub record HasMovedAll (messages : List Message) (p : PassStanding B) : Type 0 where
    pub moved_all : FoundFirstEmpty p.calls
    pub past : (known_on first p).finished < (known_on first p).head
    pub unasked : p.gates ≡ 0
    pub between : IsBetweenParts p
    pub few_calls : HasFewStageCalls 0 (length messages) p
    pub moves : MovesSoFar (on first (takes_of p.calls)) (on second (sends_of p.calls))
    pub follows : EachHasItsCall IsNextOf is_next messages p.calls

  -- with its list, unless it wanted memory
  pub record IsDone (messages : List Message) (p : PassStanding B) (members : List Finished)
      (starved : Bool) : Type 0 where
    pub moved : HasMovedAll messages p
    pub listed : starved ≡ false → HasListed messages p members

  -- the list of a worker that has retired, against its pass
  pub record HasListedAll (messages : List Message) (p : PassStanding B)
      (members : List Finished) : Type 0 where
    pub passed : ArePassedOn SendsToFirst FinishesItself messages (on first (sends_of p.calls))
        (filter is_direct members)
    pub seconds : SecondsSoFar (on second (takes_of p.calls)) (filter is_second members)
    pub firsts : FirstsSoFar (on first (takes_of (calls_behind p))) (filter is_first members)
    pub directs : DirectsAre p.fulls members

  -- a worker behind its retirement, of which `at` was the pass before
  pub record IsLeaving (messages : List Message) (at p : PassStanding B) (members : List Finished)
      (starved : Bool) : Type 0 where
    pub taken : HasGivenBack (after_retire at) p
    pub between : IsBetweenParts p
    pub few_calls : HasFewStageCalls 0 (length messages) p
    pub high : (m : Placed) → Contains (on first (takes_of (calls_behind p))) m
        → (known_on first at).head ≤ m.place
    pub listed : starved ≡ false → HasListedAll messages p members

  -- a worker that met Spent before it retired, after at most so many messages, the last one
  -- included: its pass, and the value that it keeps
  abbrev pub HasStopped : Identity B → ℕ → PassStanding B → Option (HeldStanding B) → Type 0
  HasStopped shared messages p kept = going.HasStopped (HasFewStageCalls 1 messages) shared p kept

  -- a worker that met no Spent has moved all that was in first, retired, swept and left. `at` was
  -- its pass when it retired
  pub record HasMovedAllAndSwept (messages : List Message) (pass : PassStanding B)
      (members : List Finished) (starved : Bool) : Type 0 where
    pub at : PassStanding B
    pub moved : HasMovedAll messages at
    pub leaving : IsLeaving messages at pass members starved
    pub swept : HasSwept pass

  -- a worker has done its work. `kept` is the value that it keeps where it met a ticket past the
  -- limit.
  pub record HasRun {S : Type 0} (shared : Identity B) (size : ℕ) (src : SourceOf S)
      (files : List (OwnFile S)) (pass : PassStanding B) (members : List Finished) (starved : Bool)
      (kept : Option (HeldStanding B)) : Type 0 where
    pub read : AreRead [] size src files
    pub stops : StopsAtAFault files
    pub few_calls : HasFewStageCalls 1 (length (all_given files)) pass
    pub queue : pass.queue ≡ shared
    pub retired : (calls : ℕ) × (pass.retired ≡ Some calls)
    pub held : pass.held ≡ index_of kept
    pub its : IfSome kept (λ h. h.queue ≡ shared)
    -- where it met no such ticket
    pub ended : pass.spent ≡ None → HasMovedAllAndSwept (all_given files) pass members starved
