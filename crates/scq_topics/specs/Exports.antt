-- What proofs and other crates import of these files.
pub use Rattle.scq_topics.specs.Kind.{kind_named}
pub use Rattle.scq_topics.specs.Runs.{runs, is_blank, is_space, has_bytes}
pub use Rattle.scq_topics.specs.Sum.{is_number, value_sum, sum_of}
pub use Rattle.scq_topics.specs.Reply.{reply_of}
pub use Rattle.scq_topics.specs.Topics.{has_name, topic_of, name_of, kind_of, is_name_byte}
pub use Rattle.scq_topics.specs.Topics.{HaveShortNames, entries_of, entry_name, declared_by}
pub use Rattle.scq_topics.specs.Topics.{entry_fault, first_fault}
