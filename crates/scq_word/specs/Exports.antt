-- What proofs and other crates import of these files.
pub use Rattle.scq_word.specs.Sizes.{n_of, slots_of}
pub use Rattle.scq_word.specs.Words.{mark_of, is_none_in}
unfoldable pub use Rattle.scq_word.specs.Words.{packed, index_in, safe_in, cycle_in, rank_in}
unfoldable pub use Rattle.scq_word.specs.Tickets.{cycle_of, slot_of}
pub use Rattle.scq_word.specs.Tickets.{in_columns}
unfoldable pub use Rattle.scq_word.specs.Bounds.{reset_value}
pub use Rattle.scq_word.specs.Bounds.{ticket_bound, limit_for}
pub use Rattle.scq_word.specs.Entries.{safe_bit, index_bits, word_of, index_unless_mark, entry_in}
pub use Rattle.scq_word.specs.Entries.{HasOwnIndex, IsIndexOrMark, rank_within, rank_of}
pub use Rattle.scq_word.specs.Most.{most_order, most_topics, most_rings, most_run_order}
pub use Rattle.scq_word.specs.Ranges.{IsOutside}
pub use Rattle.scq_word.specs.Written.{rewritten}
