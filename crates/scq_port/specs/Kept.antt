-- For private calls: what a port keeps.
use Rattle.std.specs.Prelude.{◌≡◌, ℕ, ◌+◌, ◌<◌, ◌≤◌, Bool, is_none, List, [], length, map, Option}
use Rattle.std.specs.Prelude.{Some, None, slice_get, if◌then◌else◌}
use Rattle.scq_law.specs.Exports.{times}
use Rattle.scq_word.specs.Exports.{n_of}
use Rattle.scq_queue.specs.Exports.{PassStanding}
use Rattle.scq_port.specs.declared.port_buffer.PortBuffer.{PortBuffer}
use Rattle.scq_port.specs.declared.hand.Hand.{Hand}
use Rattle.scq_port.specs.Ports.{PortStanding, PortQueue, Value}

-- the indices of values
abbrev pub indices : List Value → List ℕ
indices values = map (λ (h : Value). h.index) values

-- a value stands at its index, and is one that this pass of the queue holds
pub record StandsAt (queue : PortQueue) (p : PassStanding PortBuffer) (i : ℕ)
    (h : Value) : Type 0 where
  pub queue_of : h.queue ≡ queue
  pub pass : h.pass ≡ p.number
  pub index : h.index ≡ i
  pub holds : times i p.held ≡ 1

-- a pass of the queue, with all the values that it holds, each at its index; for how many more
-- there is room, and how many there may be
pub record Keeps (queue : PortQueue) (p : PassStanding PortBuffer) (slots : List (Option Value))
    (room hold : ℕ) : Type 0 where
  pub own : p.queue ≡ queue
  pub places : length slots ≡ n_of queue.setup.order
  pub here : (i : ℕ) (h : Value) → slice_get slots i ≡ Some (Some h) → StandsAt queue p i h
  pub free : (i : ℕ) → slice_get slots i ≡ Some None → times i p.held ≡ 0
  pub past : (i : ℕ) → slice_get slots i ≡ None → times i p.held ≡ 0
  pub room_is : room + length p.held ≡ hold

abbrev pub KeepsHand : PortQueue → PassStanding PortBuffer → Hand → Type 0
KeepsHand queue p hand = Keeps queue p hand.slots.items hand.room hand.hold

-- the same of the same pass after a call, which retired nothing
pub record StillKeeps (queue : PortQueue) (old new : PassStanding PortBuffer) (hand : Hand)
    : Type 0 where
  pub keeps : KeepsHand queue new hand
  pub number : new.number ≡ old.number
  pub retired : new.retired ≡ old.retired

-- a port's pass and values, how many topics its queue has, on how many it may send, the number of
-- its pass, and whether that hasn't retired
pub record IsPort (queue : PortQueue) (p : PassStanding PortBuffer) (hand : Hand)
    (many sends number : ℕ) (awake : Bool) : Type 0 where
  pub keeps : KeepsHand queue p hand
  pub topics : many + 1 ≡ queue.setup.rings
  pub sends_is : sends ≡ (if awake then many else 0)
  pub number_is : p.number ≡ number
  pub low : number < queue.setup.seats
  pub awake_is : awake ≡ is_none p.retired

-- what contracts see of a port with this pass and these values
abbrev pub seen_as : PassStanding PortBuffer → Hand → PortStanding
seen_as p hand = record { pass = p; slots = hand.slots.items; hold = hand.hold }

-- a pass of the queue, awake, that holds nothing
pub record HoldsNothing (queue : PortQueue) (p : PassStanding PortBuffer) : Type 0 where
  pub own : p.queue ≡ queue
  pub awake : p.retired ≡ None
  pub none : p.held ≡ []

-- a pass of the queue that holds the values at these places, and no others
pub record LetsGo (queue : PortQueue) (p : PassStanding PortBuffer)
    (slots : List (Option Value)) : Type 0 where
  pub own : p.queue ≡ queue
  pub here : (i : ℕ) (h : Value) → slice_get slots i ≡ Some (Some h) → StandsAt queue p i h
  pub free : (i : ℕ) → slice_get slots i ≡ Some None → times i p.held ≡ 0
  pub past : (i : ℕ) → slice_get slots i ≡ None → times i p.held ≡ 0

-- the values that a pass of the queue holds were put behind others
pub record AreAdded (queue : PortQueue) (p : PassStanding PortBuffer) (before after : List Value)
    : Type 0 where
  pub own : ((k : ℕ) (h : Value) → slice_get before k ≡ Some h → h.queue ≡ queue)
      → (k : ℕ) (h : Value) → slice_get after k ≡ Some h → h.queue ≡ queue
  pub more : (i : ℕ) → times i (indices after) ≡ times i (indices before) + times i p.held
