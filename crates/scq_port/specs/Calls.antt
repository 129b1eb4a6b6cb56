-- What each call makes of a port. What it makes of the port's pass is said in the words of the
-- queue, for topic t and index i.
use Rattle.std.specs.Prelude.{◌≡◌, ℕ, suc, ◌+◌, ◌<◌, ◌≤◌, List, [], ◌∷◌, ◌++◌, length, reverse}
use Rattle.std.specs.Prelude.{filter_map, Option, Some, None, slice_set, replicate, map}
use Rattle.std.specs.List.{Contains}
use Rattle.scq_word.specs.declared.setup.Setup.{Setup}
use Rattle.scq_word.specs.Exports.{n_of}
use Rattle.scq_band.specs.Exports.{opening_of, IsCallInRun, WasEmptyInRun, IsReadingInRun}
use Rattle.scq_band.specs.Exports.{WasCountedInRun, AllWereSeenRetired, with_retiree, Seen}
use Rattle.scq_queue.specs.Exports.{with_send, with_take, with_full, PassStanding, lists_of}
use Rattle.scq_queue.specs.Exports.{known_on, WasLent, HasGot, WasGivenBack, FoundNothing}
use Rattle.scq_queue.specs.Exports.{FoundFull, having_seen, caller_of, after_put, after_spent_put}
use Rattle.scq_queue.specs.Exports.{after_spent_get, after_look, first_passes}
use Rattle.scq_port.specs.declared.port_buffer.PortBuffer.{PortBuffer}
use Rattle.scq_port.specs.Numbers.{four_bytes, numbers_below}
use Rattle.scq_port.specs.Ports.{PortStanding, PortQueue, Value, HasValue, buffer_bytes}

-- the port holds the values that it held
pub record HoldsAsBefore (old new : PortStanding) : Type 0 where
  pub slots : new.slots ≡ old.slots
  pub hold : new.hold ≡ old.hold

-- a value came, for which there was room: it is the one that the port holds at its index from then
-- on
pub record Came (old new : PortStanding) (h : Value) : Type 0 where
  pub room : length old.pass.held < old.hold
  pub slots : new.slots ≡ slice_set old.slots h.index (Some h)
  pub hold : new.hold ≡ old.hold
  pub index : h.index < n_of old.pass.queue.setup.order

-- a value that the port held went
pub record ValueWent (old new : PortStanding) (h : Value) : Type 0 where
  pub was : HasValue old h
  pub slots : new.slots ≡ slice_set old.slots h.index None
  pub hold : new.hold ≡ old.hold

-- the call is one in a run of all passes of the queue, behind all that its pass had seen
abbrev pub IsInRun : PortStanding → PortStanding → Type 0
IsInRun old new =
    IsCallInRun old.pass.queue.setup (opening_of buffer_bytes old.pass.queue.given)
    (caller_of old.pass) (caller_of new.pass)

-- the value contains the number of its index
abbrev pub HasItsNumber : Value → Type 0
HasItsNumber h = buffer_bytes h.buffer ≡ four_bytes h.index

-- the value of an index was lent, and contains this index as its number
pub record IsLent (index : ℕ) (old new : PortStanding) : Type 0 where
  pub value : Value
  pub is : value.index ≡ index
  pub number : HasItsNumber value
  pub lent : WasLent buffer_bytes old.pass new.pass value
  pub came : Came old new value
  pub lists : lists_of new.pass ≡ lists_of old.pass
  pub unspent : old.pass.spent ≡ None
  pub run : IsInRun old new

-- the value of an index was taken from a topic, at a place, and contains this index as its number
pub record ValueIsTaken (topic place index : ℕ) (old new : PortStanding) : Type 0 where
  pub value : Value
  pub is : value.index ≡ index
  pub number : HasItsNumber value
  pub there : topic + 1 < old.pass.queue.setup.rings
  pub got : HasGot buffer_bytes (suc topic) place old.pass new.pass value
  pub low : place < old.pass.queue.setup.limit
  pub known : (known_on topic old.pass).head ≤ place
  pub came : Came old new value
  pub lists : lists_of new.pass
      ≡ with_take topic place (buffer_bytes value.buffer) (lists_of old.pass)
  pub unspent : old.pass.spent ≡ None
  pub run : IsInRun old new

-- the value of an index was sent on a topic, at a place
pub record IsSent (index topic place : ℕ) (old new : PortStanding) : Type 0 where
  pub value : Value
  pub is : value.index ≡ index
  pub there : topic + 1 < old.pass.queue.setup.rings
  pub awake : old.pass.retired ≡ None
  pub sent : new.pass
      ≡ having_seen new.pass.seen
      (after_put (suc topic) index place (buffer_bytes value.buffer) old.pass)
  pub low : place < old.pass.queue.setup.limit
  pub above : (known_on topic old.pass).seen < place
  pub went : ValueWent old new value
  pub lists : lists_of new.pass
      ≡ with_send topic place (buffer_bytes value.buffer) (lists_of old.pass)
  pub unspent : old.pass.spent ≡ None
  pub run : IsInRun old new

-- the value of an index was given back
pub record ValueIsGivenBack (index : ℕ) (old new : PortStanding) : Type 0 where
  pub value : Value
  pub is : value.index ≡ index
  pub given : WasGivenBack (buffer_bytes value.buffer) index old.pass new.pass
  pub went : ValueWent old new value
  pub lists : lists_of new.pass ≡ lists_of old.pass
  pub unspent : old.pass.spent ≡ None
  pub run : IsInRun old new

-- no buffer was free, with this head of the free ring
pub record WasFull (head : ℕ) (old new : PortStanding) : Type 0 where
  pub found : FoundFull head old.pass new.pass
  pub in_run : WasEmptyInRun old.pass.queue.setup (opening_of buffer_bytes old.pass.queue.given)
      0 head (caller_of old.pass) (caller_of new.pass)
  pub lists : lists_of new.pass ≡ with_full head (lists_of old.pass)
  pub holds : HoldsAsBefore old new
  pub unspent : old.pass.spent ≡ None

-- nothing was on the topic, with this head of it
pub record WasEmpty (topic head : ℕ) (old new : PortStanding) : Type 0 where
  pub there : topic + 1 < old.pass.queue.setup.rings
  pub found : FoundNothing (suc topic) head old.pass new.pass
  pub in_run : WasEmptyInRun old.pass.queue.setup (opening_of buffer_bytes old.pass.queue.given)
      (suc topic) head (caller_of old.pass) (caller_of new.pass)
  pub lists : lists_of new.pass ≡ lists_of old.pass
  pub holds : HoldsAsBefore old new
  pub unspent : old.pass.spent ≡ None

-- the port keeps this ticket: one that this call drew on a ring, at or past the limit, or one that
-- it kept before, and then nothing changed
pub record IsSpent (after : PassStanding PortBuffer) (ticket : ℕ)
    (old new : PortStanding) : Type 0 where
  pub drawn : old.pass.spent ≡ None
      → (new.pass ≡ having_seen new.pass.seen after) × (old.pass.queue.setup.limit ≤ ticket)
      × IsInRun old new
  pub kept : (before : ℕ) → old.pass.spent ≡ Some before → (before ≡ ticket) × (new ≡ old)
  pub lists : lists_of new.pass ≡ lists_of old.pass
  pub holds : HoldsAsBefore old new

abbrev pub IsSpentGet : ℕ → ℕ → PortStanding → PortStanding → Type 0
IsSpentGet ring ticket old new = IsSpent (after_spent_get ring ticket old.pass) ticket old new

abbrev pub IsSpentPut : ℕ → ℕ → PortStanding → PortStanding → Type 0
IsSpentPut ring ticket old new = IsSpent (after_spent_put ring ticket old.pass) ticket old new

-- the port holds as many values as it may
pub record HasNoRoom (old new : PortStanding) : Type 0 where
  pub same : new ≡ old
  pub room : length old.pass.held ≡ old.hold

-- the queue has this topic
abbrev pub HasTopic : ℕ → PortStanding → Type 0
HasTopic topic x = topic + 1 < x.pass.queue.setup.rings

-- the queue has no such topic
pub record HasNoTopic (topic : ℕ) (old new : PortStanding) : Type 0 where
  pub same : new ≡ old
  pub past : old.pass.queue.setup.rings ≤ topic + 1

-- the port holds no value of this index
pub record HoldsNoSuch (index : ℕ) (old new : PortStanding) : Type 0 where
  pub same : new ≡ old
  pub none : Contains old.pass.held index → ⊥

-- the port has retired
pub record PortHasRetired (old new : PortStanding) : Type 0 where
  pub same : new ≡ old
  pub calls : ℕ
  pub retired : old.pass.retired ≡ Some calls

-- a pass that has retired, now where it hadn't before; and its port
abbrev pub retired_as : Option ℕ → PassStanding PortBuffer → PassStanding PortBuffer
retired_as None p =
    record p {
      retired = Some (length p.calls);
      seen =
          with_retiree (p.number, length p.calls) p.seen;
    }
retired_as (Some calls) p = p

abbrev pub retired_pass : PassStanding PortBuffer → PassStanding PortBuffer
retired_pass p = retired_as p.retired p

abbrev pub retired_port : PortStanding → PortStanding
retired_port x = record x { pass = retired_pass x.pass }

-- the port asked whether all had retired, when so many had not; none, where it had seen each
-- retired
pub record HasAsked (found : ℕ) (old new : PortStanding) : Type 0 where
  pub looked : new ≡ record old { pass = having_seen new.pass.seen (after_look found old.pass) }
  pub in_run : IsReadingInRun old.pass.queue.setup
      (opening_of buffer_bytes old.pass.queue.given) old.pass.retired
      (caller_of old.pass) (caller_of new.pass) found
  pub told : AllWereSeenRetired old.pass.queue.setup old.pass.seen → found ≡ 0

-- a count of the values on a topic: nothing changed but what the port has seen of the run
pub record HasCounted (topic count : ℕ) (old new : PortStanding) : Type 0 where
  pub there : HasTopic topic old
  pub seen : new ≡ record old { pass = having_seen new.pass.seen old.pass }
  pub at_most : count ≤ n_of old.pass.queue.setup.order
  pub in_run : WasCountedInRun old.pass.queue.setup (opening_of buffer_bytes old.pass.queue.given)
      (suc topic)
      count (caller_of old.pass) (caller_of new.pass)

-- a port that has seen this of the run, and else is as it was
abbrev pub port_having_seen : Seen → PortStanding → PortStanding
port_having_seen seen x = record x { pass = having_seen seen x.pass }

-- the values that stand in these places, the last first
abbrev pub values_of : List (Option Value) → List Value
values_of slots = filter_map (λ (o : Option Value). o) (reverse slots)

-- a pass that gave these values back, one after the other
abbrev pub GaveBack : List Value → PassStanding PortBuffer → PassStanding PortBuffer → Type 0
GaveBack [] old new = new ≡ old
GaveBack (h ∷ hs) old new =
    (between : PassStanding PortBuffer) × WasGivenBack (buffer_bytes h.buffer) h.index old between
    × GaveBack hs between new

-- what a port's end made of its pass. The values that it held were given back, from the highest
-- index down: all of them, where the pass keeps no spent ticket, and then it holds nothing; else a
-- front of them
pub record HasPassEnded (old : PortStanding) (new : PassStanding PortBuffer) : Type 0 where
  pub given : List Value
  pub left : List Value
  pub all : given ++ left ≡ values_of old.slots
  -- the pass before the refusal
  pub before : PassStanding PortBuffer
  pub gave : GaveBack given old.pass before
  pub home : new.spent ≡ None → (left ≡ []) × (new ≡ before) × (new.held ≡ [])
  -- the ticket was drawn then, and is at or past the limit; or the port kept it, and nothing was
  -- given back
  pub drawn : (ticket : ℕ) → old.pass.spent ≡ None → new.spent ≡ Some ticket
      → (new ≡ having_seen new.seen (after_spent_put 0 ticket before))
      × (old.pass.queue.setup.limit ≤ ticket)
  pub kept : (ticket : ℕ) → old.pass.spent ≡ Some ticket → (given ≡ []) × (new ≡ old.pass)

-- a port of a new queue, which holds nothing
abbrev pub new_port : ℕ → PassStanding PortBuffer → PortStanding
new_port hold p =
    record { pass = p; slots = replicate (n_of p.queue.setup.order) None; hold = hold }

-- the ports of a new queue of this setup, in the order of their numbers, over buffers that contain
-- their numbers
pub record AreOpened (c : Setup) (hold : ℕ) (opened : List PortStanding) : Type 0 where
  pub queue : PortQueue
  pub setup : queue.setup ≡ c
  pub buffers : map buffer_bytes queue.given ≡ numbers_below (n_of c.order)
  pub ports : opened ≡ map (new_port hold) (first_passes queue c.seats)
