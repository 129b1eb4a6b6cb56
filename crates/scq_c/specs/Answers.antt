-- What each call of C answers, by its code: what is written out, and what became of the port.
-- Wherever the answer isn't ok nothing is written but, with empty, full and spent, the number that
-- the queue answered. Where a buffer's bytes lie, and how many they are, is never written.
use Rattle.std.specs.Prelude.{◌≡◌, ℕ, suc, ◌+◌, ◌*◌, ◌^◌, ◌<◌, ◌≤◌, ◌⊎◌, List, map, length, Option}
use Rattle.std.specs.Prelude.{Some, None, All}
use Rattle.scq_word.specs.declared.setup.Setup.{Setup}
use Rattle.scq_word.specs.Exports.{n_of, most_order, most_topics, IsOutside}
use Rattle.scq_queue.specs.Exports.{counts_of, PassStanding, lists_of}
use Rattle.scq_port.specs.Exports.{PortStanding, IsLent, ValueIsTaken, IsSent, ValueIsGivenBack}
use Rattle.scq_port.specs.Exports.{WasFull, WasEmpty, IsSpentGet, IsSpentPut, HasNoRoom, HasTopic}
use Rattle.scq_port.specs.Exports.{HasNoTopic, HoldsNoSuch, PortHasRetired, HasAsked, HasCounted}
use Rattle.scq_port.specs.Exports.{retired_port, AreOpened, HasPassEnded, HasClosedPorts}
use Rattle.scq_port.specs.Exports.{buffer_bytes}
use Rattle.scq_queue.specs.declared.closing.Closed.{Closed}
use Rattle.scq_port.specs.declared.port_buffer.PortBuffer.{PortBuffer}
use Rattle.scq_port.specs.declared.port_buffer.PortPlace.{PortPlace}
use Rattle.scq_c.specs.declared.exports.End.{End}
use Rattle.scq_c.specs.declared.exports.Held.{Held}
use Rattle.scq_c.specs.declared.tally.Tally.{Tally}
use Rattle.scq_c.specs.Codes.{scq_ok, scq_empty, scq_full, scq_spent, scq_not_held, scq_no_topic}
use Rattle.scq_c.specs.Codes.{scq_no_room, scq_no_memory, scq_bad_order, scq_bad_topics}
use Rattle.scq_c.specs.Codes.{scq_bad_ports, scq_bad_limit, scq_bad_size, scq_bad_hold}
use Rattle.scq_c.specs.Codes.{scq_is_open, scq_retired}
use Rattle.scq_c.specs.Tallies.{AreWritten}
use Rattle.scq_c.specs.declared.c_port.CPort.{CPort}
use Rattle.scq_c.specs.declared.c_port.Memory.{Memory}

-- a held buffer of this index, at a place
abbrev pub shown_at : ℕ → ℕ → Held → Held
shown_at place index h = record h { place = place; index = index }

-- the same with another number at the place
abbrev pub with_place : ℕ → Held → Held
with_place n h = record h { place = n }

-- of a lend
pub record OfLend (code : ℕ) (before after : Held) (old new : PortStanding) : Type 0 where
  pub lent : code ≡ scq_ok → (index : ℕ) × (after ≡ shown_at 0 index before) × IsLent index old new
  pub full : code ≡ scq_full → (head : ℕ) × (after ≡ with_place head before) × WasFull head old new
  pub spent : code ≡ scq_spent
      → (ticket : ℕ) × (after ≡ with_place ticket before) × IsSpentGet 0 ticket old new
  pub no_room : code ≡ scq_no_room → (after ≡ before) × HasNoRoom old new
  pub known : (code ≡ scq_ok) ⊎ (code ≡ scq_full) ⊎ (code ≡ scq_spent) ⊎ (code ≡ scq_no_room)

-- of a take
pub record OfTake (topic code : ℕ) (before after : Held) (old new : PortStanding) : Type 0 where
  pub taken : code ≡ scq_ok → (place : ℕ) × (index : ℕ) × (after ≡ shown_at place index before)
      × ValueIsTaken topic place index old new
  pub empty : code ≡ scq_empty
      → (head : ℕ) × (after ≡ with_place head before) × WasEmpty topic head old new
  pub spent : code ≡ scq_spent
      → (ticket : ℕ) × (after ≡ with_place ticket before) × IsSpentGet (suc topic) ticket old new
  pub no_topic : code ≡ scq_no_topic → (after ≡ before) × HasNoTopic topic old new
  pub no_room : code ≡ scq_no_room → (after ≡ before) × HasNoRoom old new × HasTopic topic old
  pub known : (code ≡ scq_ok) ⊎ (code ≡ scq_empty) ⊎ (code ≡ scq_spent) ⊎ (code ≡ scq_no_topic)
      ⊎ (code ≡ scq_no_room)

-- of a send
pub record OfSend (index topic code before after : ℕ) (old new : PortStanding) : Type 0 where
  pub sent : code ≡ scq_ok → IsSent index topic after old new
  pub spent : code ≡ scq_spent → IsSpentPut (suc topic) after old new
  pub not_held : code ≡ scq_not_held → (after ≡ before) × HoldsNoSuch index old new
      × HasTopic topic old × (old.pass.retired ≡ None)
  pub no_topic : code ≡ scq_no_topic → (after ≡ before) × HasNoTopic topic old new
  pub retired : code ≡ scq_retired → (after ≡ before) × PortHasRetired old new × HasTopic topic old
  pub known : (code ≡ scq_ok) ⊎ (code ≡ scq_spent) ⊎ (code ≡ scq_not_held) ⊎ (code ≡ scq_no_topic)
      ⊎ (code ≡ scq_retired)

-- of a give-back
pub record OfGiveBack (index code : ℕ) (old new : PortStanding) : Type 0 where
  pub given : code ≡ scq_ok → ValueIsGivenBack index old new
  pub spent : code ≡ scq_spent → (ticket : ℕ) × IsSpentPut 0 ticket old new
  pub not_held : code ≡ scq_not_held → HoldsNoSuch index old new
  pub known : (code ≡ scq_ok) ⊎ (code ≡ scq_spent) ⊎ (code ≡ scq_not_held)

-- of a question whether all ports have retired
pub record OfRetired (code : ℕ) (old new : PortStanding) : Type 0 where
  pub found : ℕ
  pub asked : HasAsked found old new
  pub all : code ≡ scq_retired → found ≡ 0
  pub some : code ≡ scq_ok → 0 < found
  pub known : (code ≡ scq_ok) ⊎ (code ≡ scq_retired)

-- of a count
pub record OfCount (topic code before after : ℕ) (old new : PortStanding) : Type 0 where
  pub counted : code ≡ scq_ok → HasCounted topic after old new
  pub no_topic : code ≡ scq_no_topic → (after ≡ before) × HasNoTopic topic old new
  pub known : (code ≡ scq_ok) ⊎ (code ≡ scq_no_topic)

-- the ports that C has, and where each was told that the buffers' bytes are
abbrev pub ports_of : List CPort → List (Option PortStanding)
ports_of ports = map (λ (p : CPort). p.handle.port) ports

abbrev pub memories_of : List CPort → List Memory
memories_of ports = map (λ (p : CPort). p.memory) ports

abbrev pub IsClosed : CPort → Type 0
IsClosed p = p.handle.port ≡ None

-- C's ports, which were closed, are those of a new queue, in order, and were told where the bytes
-- are: of each buffer at least one, and none of two buffers
pub record HaveOpened (order topics hold limit : ℕ) (memory : Memory)
    (before after : List CPort) : Type 0 where
  pub closed : All IsClosed before
  pub setup : Setup
  pub order_is : setup.order ≡ order
  pub rings_is : setup.rings ≡ topics + 1
  pub seats_is : setup.seats ≡ length before
  pub limit_is : setup.limit ≡ limit
  pub some_topics : 1 ≤ topics
  pub some_bytes : 1 ≤ memory.len
  pub apart : memory.len ≤ memory.stride
  pub some_hold : (1 ≤ hold) × (hold ≤ n_of order)
  pub ports : List PortStanding
  pub opened : AreOpened setup hold ports
  pub have : ports_of after ≡ map (λ (p : PortStanding). Some p) ports
  pub told : All (λ (p : CPort). p.memory ≡ memory) after

-- of an open: it opened, no memory was found, which argument is out of range, or a port was open
-- already. With all but ok each of C's ports is as it was
pub record OfOpen (order topics hold limit : ℕ) (memory : Memory) (code : ℕ)
    (before after : List CPort) : Type 0 where
  pub opened : code ≡ scq_ok → HaveOpened order topics hold limit memory before after
  pub refused : (code ≡ scq_ok → ⊥)
      → (ports_of after ≡ ports_of before) × (memories_of after ≡ memories_of before)
  pub bad_order : code ≡ scq_bad_order → IsOutside 1 most_order order
  pub bad_topics : code ≡ scq_bad_topics → IsOutside 1 most_topics topics
  pub bad_ports : code ≡ scq_bad_ports → IsOutside 1 4096 (length before)
  pub bad_limit : code ≡ scq_bad_limit → IsOutside (8 * n_of order) (2 ^ 60) limit
  pub bad_size : code ≡ scq_bad_size → (memory.len ≡ 0) ⊎ (memory.stride < memory.len)
  pub bad_hold : code ≡ scq_bad_hold → IsOutside 1 (n_of order) hold
  pub is_open : code ≡ scq_is_open → All IsClosed before → ⊥
  pub known : (code ≡ scq_ok) ⊎ ((scq_no_memory ≤ code) × (code ≤ scq_is_open))

-- the port's queue closed with this, as this pass of the port ended: `HasClosedPorts` says of it
-- what holds of all passes of the queue, one of which this is. The counts of all of them were
-- written out
pub record ClosedWithAllPasses (x : PortStanding) (its : PassStanding PortBuffer)
    (closed : Closed PortBuffer PortPlace) (before after : List Tally) : Type 0 where
  pub closed_ports : HasClosedPorts x.pass.queue its closed.passes.value.items closed.left.items
      (map buffer_bytes closed.buffers.items)
  pub counts : AreWritten
      (map (λ (p : PassStanding PortBuffer). counts_of (lists_of p)) closed.passes.value.items)
      before after

-- of a port's end, with the pass that the port had then, and with what its queue closed with: it
-- retired, and what it held was given back, all of it or as far as no ticket was spent; 1 is
-- written out exactly where the queue closed with it, else no count is written
pub record OfEnd (x : PortStanding) (e : End) (before after : List Tally) : Type 0 where
  pub ended : HasPassEnded (retired_port x) e.ended.its
  pub last : e.last ≡ 1
      → (closed : Closed PortBuffer PortPlace) × (e.ended.closed ≡ Some closed)
      × ClosedWithAllPasses x e.ended.its closed before after
  pub other : e.last ≡ 0 → (e.ended.closed ≡ None) × (after ≡ before)
  pub known : (e.last ≡ 0) ⊎ (e.last ≡ 1)
