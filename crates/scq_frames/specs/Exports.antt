-- What proofs and other crates import of these files.
pub use Rattle.scq_frames.specs.Text.{is_line_feed, lines_of_parts, text_lines, Framed, payload_of}
pub use Rattle.scq_frames.specs.Text.{framed, message_in, messages_from, messages_of}
unfoldable pub use Rattle.scq_frames.specs.Text.{messages_after}
pub use Rattle.scq_frames.specs.Trouble.{LongPayload, ManyBytes, whole_lines, first_too_long}
pub use Rattle.scq_frames.specs.Trouble.{trouble_of}
unfoldable pub use Rattle.scq_frames.specs.Trouble.{counted_bytes, trouble_after}
pub use Rattle.scq_frames.specs.Lines.{HasNoLineFeed, EndsAt}
pub use Rattle.scq_frames.specs.Trimming.{IsCut, IsTrimmed}
pub use Rattle.scq_frames.specs.Numbered.{numbered}
pub use Rattle.scq_frames.specs.Framing.{bytes_ahead, visible_ahead, visible_size, NothingLeft}
pub use Rattle.scq_frames.specs.Framing.{weight_of, given_by, IsNext, EndsOnce, fresh, Fetched}
pub use Rattle.scq_frames.specs.Framing.{work_left}
pub use Rattle.scq_frames.specs.Answers.{GivesFirst, HasFault, ReadsFrom, GoesOn}
pub use Rattle.scq_frames.specs.Room.{IsSameBefore, CameTo}
pub use Rattle.scq_frames.specs.Finding.{limit_left, trouble_ahead, MayFollow, SameTrouble, Finds}
pub use Rattle.scq_frames.specs.Finding.{IsTooLong}
pub use Rattle.scq_frames.specs.Coming.{counted_ahead, BeginsWithLong, Comes, IsNeeded, Found}
pub use Rattle.scq_frames.specs.FramerState.{framing}
pub use Rattle.scq_frames.specs.Parts.{Part, IsNumbered, parts_of, part_bytes, part_of, all_parts}
unfoldable pub use Rattle.scq_frames.specs.Encoded.{message_bytes, number_at, part_at}
pub use Rattle.scq_frames.specs.Encoded.{IsEncodable, BeginsWith}
pub use Rattle.scq_frames.specs.Batches.{batch_bytes, bytes_behind, AreParts}
unfoldable pub use Rattle.scq_frames.specs.Batches.{parts_within, parts_at}
pub use Rattle.scq_frames.specs.Views.{part_of_view}
pub use Rattle.scq_frames.specs.Judged.{file_trouble, Judges}
