-- Entries and their words, in a ring of an order.
use Rattle.std.specs.Prelude.{◌≡◌, ℕ, ◌+◌, ◌*◌, ◌<◌, Bool, true, false, Option, Some, None, ◌==◌}
use Rattle.std.specs.Prelude.{if◌then◌else◌, ◌⊎◌}
use Rattle.std.specs.Option.{ForSome}
use Rattle.scq_word.specs.declared.entry.Entry.{Entry}
use Rattle.scq_word.specs.Sizes.{n_of, slots_of}
use Rattle.scq_word.specs.Words.{mark_of, packed, index_in, safe_in, cycle_in, is_none_in}

-- the safe bit
abbrev pub safe_bit : Bool → ℕ
safe_bit true = 1
safe_bit false = 0

-- the bits of an index, or the mark
abbrev pub index_bits : ℕ → Option ℕ → ℕ
index_bits order None = mark_of (slots_of order)
index_bits order (Some index) = index

-- the word of an entry
abbrev pub word_of : ℕ → Entry → ℕ
word_of order entry =
    packed (slots_of order) entry.cycle (safe_bit entry.safe) (index_bits order entry.index)

-- the index that bits stand for, if they are not the mark
abbrev pub index_unless_mark : ℕ → ℕ → Option ℕ
index_unless_mark order word =
    if is_none_in (slots_of order) word then None else Some (index_in (slots_of order) word)

-- the entry of a word
abbrev pub entry_in : ℕ → ℕ → Entry
entry_in order word = record {
  cycle = cycle_in (slots_of order) word;
  safe = safe_in (slots_of order) word == 1;
  index = index_unless_mark order word;
}

-- its index, if it has one, is one of the ring's
abbrev pub HasOwnIndex : ℕ → Entry → Type 0
HasOwnIndex order entry = ForSome entry.index (λ index. index < n_of order)

-- the bits of the index are one of the ring's indices or the mark
abbrev pub IsIndexOrMark : ℕ → ℕ → Type 0
IsIndexOrMark order word = (index_in (slots_of order) word < n_of order)
    ⊎ (index_in (slots_of order) word ≡ mark_of (slots_of order))

-- 0 with an index while safe, 1 with an index that was marked unsafe, 2 without an index
abbrev pub rank_within : Option ℕ → Bool → ℕ
rank_within None safe = 2
rank_within (Some index) true = 0
rank_within (Some index) false = 1

-- what every change of an entry raises
abbrev pub rank_of : Entry → ℕ
rank_of entry = 3 * entry.cycle + rank_within entry.index entry.safe
