-- What is told with the last port of a queue, of all passes of the queue; of these only the last
-- port's own is known to be one port's. It is all that the queue's `close` says but `back`, of
-- which `numbers` stands for the buffers.
use Rattle.std.specs.Prelude.{◌≡◌, ℕ, List}
use Rattle.scq_word.specs.Exports.{n_of}
use Rattle.scq_band.specs.Exports.{opening_of, IsOneRunToTheEnd}
use Rattle.scq_queue.specs.Exports.{PassStanding, SentAndTook, NoneIsLost, KeptSpeakOfTheLimit}
use Rattle.scq_queue.specs.Exports.{RetiredAsTold, records_of, all_held, callers_of}
use Rattle.scq_port.specs.declared.port_buffer.PortBuffer.{PortBuffer}
use Rattle.scq_port.specs.Numbers.{numbers_below}
use Rattle.scq_port.specs.Ports.{PortQueue, Value, buffer_bytes}
use Rattle.scq_port.specs.Ends.{AreAllPasses}

-- all passes of the queue are these, in the order of their numbers, with the values that they still
-- hold; the port that closed last had this pass. One run stands behind all their calls: it has the
-- four aspects, and each ring's calls, but those that ended with Spent, stand in one order in which
-- every reply is a plain queue's. What was sent was taken or is left, no value is lost, and what is
-- said of spent tickets and of who retired is so too
pub record HasClosedPorts (queue : PortQueue) (last : PassStanding PortBuffer)
    (passes : List (PassStanding PortBuffer)) (left : List ℕ) (bytes : List (List ℕ))
    : Type 0 where
  pub values : List Value
  pub are_all : AreAllPasses queue last passes values
  pub run : IsOneRunToTheEnd queue.setup (opening_of buffer_bytes queue.given) (callers_of passes)
      (records_of passes) (all_held passes) bytes
  pub sent : SentAndTook queue.setup passes left
  pub none_lost : NoneIsLost queue.setup (opening_of buffer_bytes queue.given) passes values left
      bytes
  pub spent : KeptSpeakOfTheLimit queue.setup passes
  pub retired : RetiredAsTold passes
  pub numbers : bytes ≡ numbers_below (n_of queue.setup.order)
