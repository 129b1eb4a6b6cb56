-- What all workers of stages did with the messages of files. `given` has the messages of each file,
-- in the order of the files. A worker is told by its number, from 0: by it stand its pass among the
-- passes, and its list among the lists.
use Rattle.std.specs.Prelude.{◌≡◌, ℕ, ◌^◌, List, [], filter, flat_map, length, map, Vec}
use Rattle.std.specs.Global.{Global}
use Rattle.std.specs.List.Sorted.{IsPermutation}
use Rattle.scq_word.specs.declared.setup.Setup.{Setup}
use Rattle.scq_block.specs.declared.frame.Frame.{Frame}
use Rattle.scq_block.specs.Exports.{IsSame, bytes_of}
use Rattle.scq_frames.specs.declared.message.Message.{Message}
use Rattle.scq_collect.specs.Exports.{AreApart}
use Rattle.scq_queue.specs.Exports.{sends_of, takes_of, PassStanding}
use Rattle.scq_files.specs.Exports.{own_of}
use Rattle.scq_passes.specs.Exports.{HaveShared, IsSetup, OfEachWorker, lengths_of, calls_before}
use Rattle.scq_passes.specs.Exports.{calls_behind, ArePassedOn, EachHasItsCall, on, HasRetired}
use Rattle.scq_stages.specs.declared.finished.Finished.{Finished}
use Rattle.scq_stages.specs.declared.staged.Staged.{Staged}
use Rattle.scq_stages.specs.Stages.{both}
use Rattle.scq_stages.specs.Members.{AreMoves, DirectsAre, FirstsAre, SecondsAre, is_direct}
use Rattle.scq_stages.specs.Members.{is_first}
use Rattle.scq_stages.specs.Records.{FoundFirstEmpty, first, is_next, second}
use Rattle.scq_stages.specs.Output.{Handled, finished_in, position_of_finished, without_way}
use Rattle.scq_stages.specs.Passing.{FinishesItself, IsNextOf, SendsToFirst}

-- a message, handled: its file and line, and its payload after both stages
abbrev pub handled_of : Message → Handled
handled_of m = record { file = m.file; line = m.line; payload = both m.payload }

module _ {B : Type 0} where
  -- the workers' lists, against the messages of files and the workers' passes
  pub record HaveFinished (workers : ℕ) (given : List (List Message))
      (passes : List (PassStanding B)) (lists : List (Vec Finished Global)) : Type 0 where
    pub each_pass : length passes ≡ workers
    pub each_list : length lists ≡ workers
    -- the members of all lists are what becomes of all messages, each once; so no two have one file
    -- and line
    pub once : IsPermutation (map without_way (finished_in lists))
        (map handled_of (flat_map (λ own. own) given))
    pub apart : AreApart position_of_finished (finished_in lists)
    -- the messages of a worker's files, in order, are each its next send to first or its next
    -- Direct member, and there are no others
    pub passed : OfEachWorker (λ w p list.
        ArePassedOn SendsToFirst FinishesItself (own_of workers w 1 given)
        (on first (sends_of p.calls))
        (filter is_direct list)) passes lists
    -- and they stand so in its record: each is its next send to first or its next Full
    pub follows : OfEachWorker (λ w p list.
        EachHasItsCall IsNextOf is_next (own_of workers w 1 given) p.calls) passes lists
    -- one by one and in order, its takes from first from its retirement on are its First members,
    -- its takes from second its Second members, and its Full replies its Direct members
    pub firsts : OfEachWorker (λ w p list.
        FirstsAre (on first (takes_of (calls_behind p))) list) passes lists
    pub seconds : OfEachWorker (λ w p list.
        SecondsAre (on second (takes_of p.calls)) list) passes lists
    pub directs : OfEachWorker (λ w p list. DirectsAre p.fulls list) passes lists
    -- so with one worker every message that it didn't finish directly went through second
    pub alone : workers ≡ 1 → filter is_first (finished_in lists) ≡ []

  -- what a pass took from first before it retired is, one by one and in order, what it sent to
  -- second, redacted. Up to there it took from second and then from first after each Full, and its
  -- last call was a take of first that found nothing
  pub record KeepsStages (p : PassStanding B) : Type 0 where
    pub moves : AreMoves (on first (takes_of (calls_before p))) (on second (sends_of p.calls))
    pub retired : HasRetired FoundFirstEmpty p

-- the queue of a job of stages is closed, and nothing is stranded in it, whatever its workers met:
-- before each retired it moved what it took from first, and then found first empty; what was sent
-- was taken, and all buffers are free: those that came back are the frames of its block that it was
-- given. No pass has more than 2 ^ 37 sends or takes: of at most 2 ^ 36 messages each is sent and
-- taken twice at most
pub record NothingIsStranded (order workers : ℕ) (passes : List (PassStanding Frame))
    (frames : List Frame) (left : List ℕ) : Type 0 where
  pub setup : Setup
  pub of_job : IsSetup order 2 workers setup
  pub shared : HaveShared bytes_of IsSame KeepsStages (2 ^ 37) 2 setup passes frames left

-- so many workers finished the messages that files gave: what they made of them, by their passes,
-- and the lengths of the passes' lists
pub record HasStaged (workers : ℕ) (given : List (List Message)) (s : Staged) : Type 0 where
  pub staged : HaveFinished workers given s.passes.value.items s.done.items
  pub counts : s.counts.items ≡ map lengths_of s.passes.value.items
