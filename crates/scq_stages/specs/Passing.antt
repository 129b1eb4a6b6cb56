-- What becomes of the messages of a worker's files: each goes to first as one part, or its own
-- worker does both stages to it.
use Rattle.std.specs.Prelude.{◌≡◌, ℕ, zero, suc}
use Rattle.scq_core.specs.declared.ended.Ended.{Ended}
use Rattle.scq_core.specs.declared.ended.Ended.TheVariants.{Done, Nothing}
use Rattle.scq_frames.specs.declared.message.Message.{Message}
use Rattle.scq_frames.specs.Exports.{Part, IsEncodable, BeginsWith}
use Rattle.scq_queue.specs.Exports.{Placed}
use Rattle.scq_stages.specs.declared.finished.Finished.{Finished}
use Rattle.scq_stages.specs.declared.finished.StageWay.TheVariants.{Direct}
use Rattle.scq_stages.specs.Stages.{both}
use Rattle.scq_stages.specs.Members.{finished}
use Rattle.scq_stages.specs.Records.{first}

-- a whole message as its one part
abbrev pub whole_of : Message → Part
whole_of m = record {
  file = m.file;
  line = m.line;
  topic = m.topic;
  part = 1;
  parts = 1;
  payload =
      m.payload;
}

-- what was sent to first has the bytes of the message
pub record SendsToFirst (m : Message) (send : Placed) : Type 0 where
  pub topic : send.topic ≡ first
  pub fits : IsEncodable (whole_of m)
  pub bytes : BeginsWith send.bytes (whole_of m)

-- a member is the message after both stages, which its own worker did
pub record FinishesItself (m : Message) (f : Finished) : Type 0 where
  pub head : ℕ
  pub is : f ≡ finished (Direct head) both (whole_of m)

-- a call is what becomes of a message: the send of its bytes to first, or a Full
abbrev pub IsNextOf : Message → Ended → Type 0
IsNextOf m (Done (suc zero) place bytes) =
    SendsToFirst m (record { topic = first; place = place; bytes = bytes })
IsNextOf m (Nothing zero) = Unit {0}
IsNextOf m call = ⊥
