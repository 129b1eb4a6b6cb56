-- What proofs and other crates import of these files.
pub use Rattle.scq_self.specs.Generated.{self_topics, number_after, generated}
pub use Rattle.scq_self.specs.Summary.{summary_of, self_summary}
