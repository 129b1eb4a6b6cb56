-- A ring as lists, and what stands at one cell of it.
use Rattle.std.specs.Prelude.{ℕ, ◌<◌, List, [], length, slice_index_or, slice_set}
use Rattle.scq_core.specs.declared.slot.Slot.{Slot}
use Rattle.scq_core.specs.declared.slot.Cell.{Cell}
use Rattle.scq_core.specs.declared.slot.Cell.TheVariants.{Tail, Head, Threshold, Entry}

-- its three words, Threshold as 2^32 more than its value, and its entries by slot
pub record RingLists : Type 0 where
  pub tail : ℕ
  pub head : ℕ
  pub threshold : ℕ
  pub slots : List Slot

-- a cell of the ring: a slot is one of its own
abbrev pub IsCell : RingLists → Cell → Type 0
IsCell ring (Entry slot) = slot < length ring.slots
IsCell ring cell = Unit {0}

-- the word at a cell; past the last slot stands a given one
abbrev pub word_in : Slot → RingLists → Cell → ℕ
word_in past ring Tail = ring.tail
word_in past ring Head = ring.head
word_in past ring Threshold = ring.threshold
word_in past ring (Entry slot) = (slice_index_or ring.slots slot past).word

-- the content beside it
abbrev pub content_in : Slot → RingLists → Cell → List ℕ
content_in past ring (Entry slot) = (slice_index_or ring.slots slot past).content
content_in past ring cell = []

-- the ring with another word at a cell, and beside an entry this content
abbrev pub ring_with : RingLists → Cell → ℕ → List ℕ → RingLists
ring_with ring Tail word content = record ring { tail = word }
ring_with ring Head word content = record ring { head = word }
ring_with ring Threshold word content = record ring { threshold = word }
ring_with ring (Entry slot) word content =
    record ring { slots = slice_set ring.slots slot (record { word = word; content = content }) }
