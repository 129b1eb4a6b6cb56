-- What proofs and other crates import of these files.
pub use Rattle.scq_outside.specs.Calls.{are_pieces}
pub use Rattle.scq_outside.specs.Counts.{Rose, RoseWhere}
pub use Rattle.scq_outside.specs.Readable.{Plain}
pub use Rattle.scq_outside.specs.Table.{without_name}
pub use Rattle.scq_outside.specs.Taking.{Took, TookUntil}
