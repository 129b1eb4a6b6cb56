-- What proofs and other crates import of these files.
pub use Rattle.scq_collect.specs.Output.{Answer, answer_of_whole, answer_of_view, answer_to}
pub use Rattle.scq_collect.specs.Output.{answers_to, reply_line, count_on, bytes_on, total_line}
pub use Rattle.scq_collect.specs.Output.{total_lines, text_of_answers, one_thread_output}
pub use Rattle.scq_collect.specs.Collected.{answer_of, messages_to}
pub use Rattle.scq_collect.specs.Merging.{IsBefore, StandInOrder, IsSorted, AreApart, members_of}
pub use Rattle.scq_collect.specs.Merging.{IsMerged, position_of, position_of_answer}
pub use Rattle.scq_collect.specs.Merging.{position_of_part}
pub use Rattle.scq_collect.specs.Joined.{joined, PartAnswer, without_way, text_of_part, part_answer}
pub use Rattle.scq_collect.specs.Joined.{part_answers, AreWhole, BeginsMessage, in_front}
pub use Rattle.scq_collect.specs.Joined.{messages_in_order, text_of_parts, answers_of, IsJoined}
pub use Rattle.scq_collect.specs.Sums.{AreTotals}
pub use Rattle.scq_collect.specs.Pieces.{pieces_bytes, IsPieceOf, all_answers, IsStretchOf}
pub use Rattle.scq_collect.specs.Pieces.{AreStretchesOf, IsMadeOf, AreMadeOf, AreOfMembers}
pub use Rattle.scq_collect.specs.Coding.{width, step, stepped, is_alone, topic_code, part_numbers}
pub use Rattle.scq_collect.specs.Coding.{answers_bytes, IsCodable}
unfoldable pub use Rattle.scq_collect.specs.Coding.{number_bytes, body_bytes, answer_bytes}
unfoldable pub use Rattle.scq_collect.specs.Coding.{number_from, short_from, parts_from, place_from}
unfoldable pub use Rattle.scq_collect.specs.Coding.{body_from}
pub use Rattle.scq_collect.specs.PartViews.{viewed_answer}
pub use Rattle.scq_collect.specs.GivenAnswers.{given_answer}
pub use Rattle.scq_collect.specs.Ways.{is_direct}
pub use Rattle.scq_collect.specs.InBlocks.{HasAnswers, last_position, AreInBlocks}
pub use Rattle.scq_collect.specs.Spots.{body_or_nothing, answer_in, spot_answer, plain}
pub use Rattle.scq_collect.specs.Spots.{position_of_spot, AreMerged}
pub use Rattle.scq_collect.specs.Spans.{place_of, is_in, AreNext}
pub use Rattle.scq_collect.specs.Laid.{IsBlockOf, AreLaid}
pub use Rattle.scq_collect.specs.Taken.{position_of_part_answer, AreAnswersIn, AreTaken}
pub use Rattle.scq_collect.specs.Texts.{AreTextsOf}
