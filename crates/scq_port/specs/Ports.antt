-- What contracts see of a port: its pass, the values that it holds, and how many it may hold.
use Rattle.std.specs.Prelude.{◌≡◌, ℕ, List, map, Option, Some, slice_get}
use Rattle.scq_word.specs.Exports.{n_of}
use Rattle.scq_band.specs.Exports.{Identity}
use Rattle.scq_queue.specs.Exports.{PassStanding, HeldStanding}
use Rattle.scq_port.specs.declared.port_buffer.PortBuffer.{PortBuffer}
use Rattle.scq_port.specs.Numbers.{numbers_below}

-- what a buffer contains: the four bytes of its number
abbrev pub buffer_bytes : PortBuffer → List ℕ
buffer_bytes b = b.number.value

-- a value that a port holds, and a queue of such buffers
abbrev pub Value : Type 0
Value = HeldStanding PortBuffer

abbrev pub PortQueue : Type 0
PortQueue = Identity PortBuffer

-- the buffer that the queue was given for each index contains its number
abbrev pub AreNumbered : PortQueue → Type 0
AreNumbered queue = map buffer_bytes queue.given ≡ numbers_below (n_of queue.setup.order)

-- at each index `slots` has the value of this index, where the port holds it
pub record PortStanding : Type 0 where
  pub pass : PassStanding PortBuffer
  pub slots : List (Option Value)
  pub hold : ℕ

-- the port holds this value
abbrev pub HasValue : PortStanding → Value → Type 0
HasValue p h = slice_get p.slots h.index ≡ Some (Some h)
