-- How the work on all files ended: the fault of the workers and its cause, and what is known of
-- each end. Files are numbered from 1.
use Rattle.std.specs.Prelude.{◌≡◌, ◌+◌, List, length, map, IfOk, IfSome, IsSomeAnd}
use Rattle.std.specs.List.Sorted.{IsPermutation}
use Rattle.scq_frames.specs.declared.message.Message.{Message}
use Rattle.scq_collect.specs.Exports.{messages_to, part_answers, without_way, members_of}
use Rattle.scq_files.specs.Exports.{AreGiven, all_left, messages_in, SourceOf}
use Rattle.scq_work.specs.AllWorkers.{HasWorked, NothingIsStranded}
use Rattle.scq_worker.specs.declared.job.Job.{Job}
use Rattle.scq_work.specs.declared.worked.Worked.{Worked}
use Rattle.scq_desk.specs.declared.end.End.{End}
use Rattle.scq_desk.specs.Exports.{EndsReading}

-- what is known of the end of a job's work on these sources: how they were read; with no fault,
-- that the lists answer all parts given; and where a queue was closed, that nothing is stranded in
-- it
pub record EndsWork {S : Type 0} (j : Job) (src : SourceOf S) (sources : List S)
    (end : End Worked S) : Type 0 where
  pub reading : EndsReading j.workers j.longest src sources end
  -- where the bytes of all are visible the answers are those to all parts of their messages
  pub answers : IfOk end.result (λ w. IfSome (all_left src.left sources) (λ contents.
      IsPermutation (map without_way (members_of w.answered.items))
      (part_answers j.topics j.size (messages_to j.topics 1 contents))))
  -- and the passes answer for what was sent and taken
  pub told : IfOk end.result (λ w.
      IfSome (all_left src.left sources) (λ contents.
      HasWorked j.topics j.size j.most j.workers (messages_in j.topics 1 contents) w))
  -- of every source: of one whose bytes aren't visible the lists answer for some messages of the
  -- right shape. `told` and `answers` follow
  pub worked : IfOk end.result (λ w.
      (given : List (List Message)) × AreGiven j.topics j.longest src.left 1 sources given
      × HasWorked j.topics j.size j.most j.workers given w)
  -- where a queue was closed, at a fault too, it was so with each buffer free: each pass has
  -- retired, and what was sent was taken
  pub none_stranded : IfSome end.left (λ l. IsSomeAnd end.passes (λ p. IsSomeAnd end.frames (λ f.
      NothingIsStranded j.order (length j.topics
      + 1) j.workers p.value.items f.value.items l.items)))
  -- these passes are those of the answers
  pub same : IfOk end.result (λ w. IsSomeAnd end.passes (λ p. p.value.items ≡ w.passes.value.items))
