-- For the rule of the table, the law of views (`each_view_knows_the_truth`) and the law of the
-- layout (`hot_words_are_apart`); no public call's contract cites it. Where the words of the rings
-- stand in the table. Word 0, the gate, counts the seats that have not retired; then comes ring
-- after ring, each with Tail, Head, Threshold and its entries. The gate, Tail, Head and Threshold
-- are hot: all seats write to them. Each stands `d` words at least from every other word that is
-- used, where d is 1 or more; 1 packs the words. The entries stand in rows of eight words, a cache
-- line, and column by column in the order of their tickets. Nothing else knows the number of a
-- word: the code asks `layout.rt`, and proofs cite the facts of `Layouts`, which are proved for
-- each d.
use Rattle.std.specs.Prelude.{◌≢◌, ◌⊎◌, ℕ, ◌+◌, ◌-◌, ◌*◌, ◌/◌, ◌%◌, ◌^◌, ◌<◌, ◌≤◌}
use Rattle.std.specs.Prelude.{nat_le, if◌then◌else◌}
use Rattle.scq_word.specs.Exports.{in_columns}
use Rattle.scq_word.specs.declared.setup.Setup.{Setup}
use Rattle.scq_core.specs.Exports.{Location, tail_of, head_of, threshold_of, entry_of, ring_slots}
use Rattle.scq_core.specs.Exports.{slot}

-- where the entry of a ticket's slot stands
abbrev pub entry_at : Setup → ℕ → ℕ → Location
entry_at c ring ticket = entry_of ring (slot c ticket)

-- the ring of a location
abbrev pub ring_at : Location → ℕ
ring_at (tail_of r) = r
ring_at (head_of r) = r
ring_at (threshold_of r) = r
ring_at (entry_of r s) = r

-- a slot is one of its ring's
abbrev pub IsSlotAt : Setup → Location → Type 0
IsSlotAt c (entry_of r s) = s < ring_slots c
IsSlotAt c l = Unit {0}

-- a location of this setup
abbrev pub IsLocation : Setup → Location → Type 0
IsLocation c l = (ring_at l < c.rings) × IsSlotAt c l

-- what the tickets of slot s leave modulo the number of slots: the map of tickets to slots, undone
abbrev pub remainder_of : ℕ → ℕ → ℕ
remainder_of order s = s / 8 + s % 8 * 2 ^ (order + 1 - 3)

-- the largest order at which each entry has a row to itself
abbrev pub largest_lined_order : ℕ
largest_lined_order = 9

-- how many rows the entries of a ring take, as a power of two: one for each entry up to that order,
-- and above it one for eight
unfoldable pub column_bits : ℕ → ℕ
column_bits order = if nat_le order largest_lined_order then order + 1 else order + 1 - 3

-- how far the entry of a slot stands behind the first one: those of tickets that follow one another
-- stand in rows that follow one another
unfoldable pub entry_offset : ℕ → ℕ → ℕ
entry_offset order s = in_columns (2 ^ column_bits order) (remainder_of order s)

-- where a location stands among the words of its ring
abbrev pub offset_of : ℕ → Setup → Location → ℕ
offset_of d c (tail_of r) = 0
offset_of d c (head_of r) = d
offset_of d c (threshold_of r) = 2 * d
offset_of d c (entry_of r s) = 3 * d + entry_offset c.order s

-- the number of a location in its ring: Tail, Head, Threshold and the entries by slot
abbrev pub number_in_ring : Location → ℕ
number_in_ring (tail_of r) = 0
number_in_ring (head_of r) = 1
number_in_ring (threshold_of r) = 2
number_in_ring (entry_of r s) = 3 + s

-- how many words a ring takes: behind its last entry as many stay unused as between hot words
abbrev pub ring_words : ℕ → Setup → ℕ
ring_words d c = 3 * d + 8 * 2 ^ column_bits c.order + (d - 1)

-- how many words the table has
abbrev pub count_by : ℕ → Setup → ℕ
count_by d c = d + c.rings * ring_words d c

-- the number of the word of a location
abbrev pub word_by : ℕ → Setup → Location → ℕ
word_by d c l = d + (ring_at l * ring_words d c + offset_of d c l)

-- the ring that a word belongs to
abbrev pub ring_by : ℕ → Setup → ℕ → ℕ
ring_by d c word = (word - d) / ring_words d c

-- the number of the gate's word
abbrev pub gate_word : ℕ
gate_word = 0

-- how far hot words stand apart in the table that runs
abbrev pub distance : ℕ
distance = 16

-- the same for this distance
abbrev pub word_count : Setup → ℕ
word_count c = count_by distance c

unfoldable pub at : Setup → Location → ℕ
at c l = word_by distance c l

unfoldable pub ring_of_word : Setup → ℕ → ℕ
ring_of_word c word = ring_by distance c word

-- Tail, Head and Threshold
abbrev pub IsHot : Location → Type 0
IsHot (entry_of r s) = ⊥
IsHot l = Unit {0}

-- these words stand that far apart
abbrev pub StandApart : ℕ → ℕ → ℕ → Type 0
StandApart d i j = (i + d ≤ j) ⊎ (j + d ≤ i)

-- the gate and each hot word stand that far from every other word that is used
abbrev pub HotWordsAreApart : Type 0
HotWordsAreApart =
    (c : Setup) (l : Location) → IsLocation c l
    → StandApart distance gate_word (at c l)
    × (IsHot l → (k : Location) → IsLocation c k → l ≢ k → StandApart distance (at c l) (at c k))
