-- What proofs and other crates import of these files.
pub use Rattle.scq_lines.specs.Lines.{lines_of, ends_field, fields_of, fields_after, number_of}
pub use Rattle.scq_lines.specs.Lines.{number_below, is_lower_digit, is_hex, field_content}
pub use Rattle.scq_lines.specs.Lines.{content_text}
