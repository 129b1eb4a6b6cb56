-- How the stages over all files ended.
use Rattle.std.specs.Prelude.{◌≡◌, List, [], map, IfOk, IfSome, IsSomeAnd}
use Rattle.std.specs.List.Sorted.{IsPermutation}
use Rattle.scq_frames.specs.declared.message.Message.{Message}
use Rattle.scq_files.specs.Exports.{AreGiven, all_left, messages_in, SourceOf}
use Rattle.scq_desk.specs.Exports.{EndsReading}
use Rattle.scq_desk.specs.declared.end.End.{End}
use Rattle.scq_stages.specs.AllStages.{HasStaged, NothingIsStranded}
use Rattle.scq_stages.specs.Output.{finished_in, all_handled, without_way}
use Rattle.scq_stages.specs.declared.job.StageJob.{StageJob}
use Rattle.scq_stages.specs.declared.staged.Staged.{Staged}

-- what is known of the end of the stages over these sources, which come back in their order in
-- every case
pub record EndsStages {S : Type 0} (j : StageJob) (src : SourceOf S) (sources : List S)
    (end : End Staged S) : Type 0 where
  pub reading : EndsReading j.workers j.size src sources end
  -- where the bytes of all are visible the members are what becomes of their messages, each once
  pub handled : IfOk end.result (λ s. IfSome (all_left src.left sources) (λ contents.
      IsPermutation (map without_way (finished_in s.done.items)) (all_handled 1 contents)))
  -- the lists tell of the messages that the files gave, and of what the passes sent and took: of
  -- contents that are visible, and of every source
  pub told : IfOk end.result (λ s. IfSome (all_left src.left sources) (λ contents.
      HasStaged j.workers (messages_in [] 1 contents) s))
  pub staged : IfOk end.result (λ s.
      (given : List (List Message)) × AreGiven [] j.size src.left 1 sources given
      × HasStaged j.workers given s)
  -- whatever the answer is, the queue was closed with each buffer free: before it retired each pass
  -- moved to second what it took from first, and then found first empty; and what was sent was
  -- taken
  pub left : IfSome end.left (λ l. IsSomeAnd end.passes (λ p. IsSomeAnd end.frames (λ f.
      NothingIsStranded j.order j.workers p.value.items f.value.items l.items)))
  pub same : IfOk end.result (λ s. IsSomeAnd end.passes (λ p. p.value.items ≡ s.passes.value.items))
