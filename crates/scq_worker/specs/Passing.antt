-- What becomes of the parts of the messages of a worker's files: they go on in batches, each of
-- which is sent, or answered directly.
use Rattle.std.specs.Prelude.{◌≡◌, ◌==◌, ℕ, suc, List, [], ◌∷◌, ◌++◌, filter, map}
use Rattle.std.specs.Prelude.{flat_map, None, All}
use Rattle.scq_core.specs.declared.ended.Ended.{Ended}
use Rattle.scq_core.specs.declared.ended.Ended.TheVariants.{Done, Nothing}
use Rattle.scq_topics.specs.declared.kind.Kind.{Kind}
use Rattle.scq_frames.specs.declared.message.Message.{Message}
use Rattle.scq_frames.specs.Exports.{Part, all_parts}
use Rattle.scq_collect.specs.declared.answered.Answered.{Answered}
use Rattle.scq_collect.specs.declared.answered.Way.TheVariants.{Direct}
use Rattle.scq_queue.specs.Exports.{Placed, sent_by, was_full}
use Rattle.scq_passes.specs.PassedOn as passed
use Rattle.scq_worker.specs.Members.{answered, CarriesParts, IsBatch}

-- all parts of messages, in order, where a part has at most so many bytes
abbrev pub parts_in : ℕ → List Message → List Part
parts_in size messages = flat_map (all_parts size) messages

-- all parts of batches, one batch behind the other
abbrev pub parts_among : List (List Part) → List Part
parts_among batches = flat_map (λ batch. batch) batches

-- those of parts that are on a topic, in order
abbrev pub parts_on : ℕ → List Part → List Part
parts_on topic parts = filter (λ (p : Part). p.topic == topic) parts

-- parts went on in these batches, each as `IsBatch` says: on each topic the parts of the batches
-- are these, in order; and where none goes with another, each is a batch, in order
pub record AreBatchesOf (most : ℕ) (parts : List Part) (batches : List (List Part)) : Type 0 where
  pub each : All (IsBatch most) batches
  pub same : (topic : ℕ) → parts_on topic parts ≡ parts_on topic (parts_among batches)
  pub alone : most ≡ 0 → batches ≡ map (λ p. p ∷ []) parts

-- this send has the bytes of the batch, on its topic
pub record Sends (batch : List Part) (send : Placed) : Type 0 where
  pub topic : All (λ p. p.topic ≡ send.topic) batch
  pub carries : CarriesParts send.bytes batch

-- these members answer the parts of the batch directly, with one head of the ring of free buffers
pub record AnswersDirectly (topics : List (List ℕ × Kind)) (batch : List Part)
    (group : List Answered) : Type 0 where
  pub head : ℕ
  pub answers : group ≡ map (answered topics (Direct head)) batch

-- batches, in order, are each the next send or the next direct answers, and there are no other
-- sends and direct answers
abbrev pub BatchesArePassedOn : List (List ℕ × Kind) → List (List Part) → List Placed
    → List (List Answered) → Type 0
BatchesArePassedOn topics batches sends groups =
    passed.ArePassedOn Sends (AnswersDirectly topics) batches sends groups

-- these batches, in order, are each the next send or the next Full in a record of calls, and there
-- are no other sends and Fulls
pub data FollowsCalls : List (List Part) → List Ended → Type 0 where
  no_call : FollowsCalls [] []
  by_send : {bs : List (List Part)} {calls : List Ended} (b : List Part) (topic place : ℕ)
      (bytes : List ℕ) → FollowsCalls bs calls
      → Sends b (record { topic = topic; place = place; bytes = bytes })
      → FollowsCalls (bs ++ b ∷ []) (calls ++ Done (suc topic) place bytes ∷ [])
  by_full : {bs : List (List Part)} {calls : List Ended} (b : List Part) → FollowsCalls bs calls
      → FollowsCalls (bs ++ b ∷ []) (calls ++ Nothing 0 ∷ [])
  by_other : {bs : List (List Part)} {calls : List Ended} (call : Ended)
      → FollowsCalls bs calls → sent_by call ≡ None → was_full call ≡ 0
      → FollowsCalls bs (calls ++ call ∷ [])
