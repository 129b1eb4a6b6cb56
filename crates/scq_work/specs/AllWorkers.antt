-- What all workers did with the messages of files. `given` has the messages of each file, in the
-- order of the files. A worker is told by its number, from 0: by it stand its pass among the
-- passes, and its list among the lists.
use Rattle.std.specs.Prelude.{◌≡◌, ℕ, ◌^◌, ◌≤◌, List, Some, length, map, flat_map, slice_get, All}
use Rattle.std.specs.List.Sorted.{IsPermutation}
use Rattle.scq_topics.specs.declared.kind.Kind.{Kind}
use Rattle.scq_frames.specs.declared.message.Message.{Message}
use Rattle.scq_collect.specs.Exports.{AreWhole, part_answers, without_way, members_of}
use Rattle.scq_collect.specs.declared.answered.Answered.{Answered}
use Rattle.scq_word.specs.declared.setup.Setup.{Setup}
use Rattle.scq_block.specs.declared.frame.Frame.{Frame}
use Rattle.scq_block.specs.Exports.{IsSame, bytes_of}
use Rattle.scq_queue.specs.Exports.{takes_of, PassStanding}
use Rattle.scq_files.specs.Exports.{own_of}
use Rattle.scq_work.specs.declared.worked.Worked.{Worked}
use Rattle.scq_worker.specs.Exports.{AnswersItsTakes, parts_in, HasListedAll}
use Rattle.scq_passes.specs.Exports.{HelpsAfterEachFull, HelpsOnceAfterEachFull, HasRetired}
use Rattle.scq_passes.specs.Exports.{IsSetup, HaveShared, lengths_of}

module _ {B : Type 0} where
  -- P holds of each worker's number, pass and answers
  abbrev pub OfEachWorkersAnswers : (ℕ → PassStanding B → List Answered → Type 0)
      → List (PassStanding B) → List (List Answered) → Type 0
  OfEachWorkersAnswers P passes lists =
      (w : ℕ) (p : PassStanding B) (list : List Answered) → slice_get passes w ≡ Some p
      → slice_get lists w ≡ Some list → P w p list

  -- the workers' lists, against the messages of files and the workers' passes. A part has at most
  -- `size` bytes; those that go together have at most `most`, 24 for each part counted in
  pub record HaveAnswered (topics : List (List ℕ × Kind)) (size most workers : ℕ)
      (given : List (List Message)) (passes : List (PassStanding B))
      (lists : List (List Answered)) : Type 0 where
    pub each_pass : length passes ≡ workers
    pub each_list : length lists ≡ workers
    -- the answers in all lists are those to all parts of all messages, each once
    pub once : IsPermutation (map without_way (members_of lists))
        (part_answers topics size (flat_map (λ own. own) given))
    -- so they are whole messages: of each file and line that stands in the lists the members are
    -- its parts 1 to `parts`, each once and on one topic. That is a declared one or that of all
    -- others, and no part has more than `size` bytes.
    pub whole : AreWhole (members_of lists)
    pub known : All (λ a. a.topic ≤ length topics) (members_of lists)
    pub short : All (λ a. a.bytes ≤ size) (members_of lists)
    -- in order, the Taken members of a worker's list are the answers to the parts in its takes
    pub takes : OfEachWorkersAnswers (λ w p list.
        AnswersItsTakes topics most (takes_of p.calls) list) passes lists
    -- the parts of the messages of a worker's files go on in batches, on each topic in order of
    -- file, line and part. Each batch is the pass's next send or next Full, as they stand in its
    -- record, and there are no others; its Direct members are the answers to the parts of those
    -- that met a Full
    pub listed : OfEachWorkersAnswers (λ w p list.
        HasListedAll topics most (parts_in size (own_of workers w 1 given)) p list) passes lists

  -- a pass has helped: after each Full, before the next lend, comes a take of each topic. And it
  -- has retired; up to there it took just once from each topic after each Full
  pub record HasHelped (topics : ℕ) (p : PassStanding B) : Type 0 where
    pub helps : HelpsAfterEachFull topics p.calls
    pub retired : HasRetired (HelpsOnceAfterEachFull topics) p

-- the queue of a job with so many topics, that of all undeclared ones among them, is closed, and
-- nothing is stranded in it, whatever its workers met: they have retired (of their sweeps this says
-- nothing), no ticket was spent, no pass made more than 2^36 sends, takes or Fulls, and all buffers
-- are free: those that came back are the ones that it was given
pub record NothingIsStranded (order topics workers : ℕ) (passes : List (PassStanding Frame))
    (frames : List Frame) (left : List ℕ) : Type 0 where
  pub setup : Setup
  pub of_job : IsSetup order topics workers setup
  pub shared : HaveShared bytes_of IsSame (HasHelped topics)
      (2 ^ 36) topics setup passes frames left

-- so many workers answered files that gave these messages: what they answered, by their passes, and
-- the lengths of the passes' lists
pub record HasWorked (topics : List (List ℕ × Kind)) (size most workers : ℕ)
    (given : List (List Message)) (w : Worked) : Type 0 where
  pub answered : HaveAnswered topics size most workers given w.passes.value.items w.answered.items
  pub counts : w.counts.items ≡ map lengths_of w.passes.value.items
