-- What proofs and other crates import of these files.
pub use Rattle.scq_check.specs.Line.{said, line_of}
pub use Rattle.scq_check.specs.HistoryText.{token_of, said_event, tokens_in, events_in, may_follow}
pub use Rattle.scq_check.specs.HistoryText.{may_stand_next, IsHistory, empty, one_more, IsBadLine}
pub use Rattle.scq_check.specs.HistoryText.{IsUnlawfulLine}
pub use Rattle.scq_check.specs.Verdicts.{IsVerdictOf, AreBreaches, AreWithin, verdict_lines}
pub use Rattle.scq_check.specs.ByName.{same_name, name_order, place_in}
pub use Rattle.scq_check.specs.Calls.{own_start, IsCalls}
pub use Rattle.scq_check.specs.Puts.{put_number, IsPutStart, StartsNoPut, StartsPut, IsPuts}
pub use Rattle.scq_check.specs.Gots.{is_same_put, found_in, NotNamed, IsGots, IsGotOf, IsNoGot}
pub use Rattle.scq_check.specs.Tables.{IsTables, AreOfLawful, HasEvent, IsOf, IsCallOf, IsQueueOf}
pub use Rattle.scq_check.specs.Tables.{IsRefusalAt}
pub use Rattle.scq_check.specs.Queues.{AreClaimed, unseen, queue_in, IsRightAt, IsRightBy}
pub use Rattle.scq_check.specs.Queues.{IsQueueAt, AreQueuesAt, CountsAreSmall, AreTallies}
pub use Rattle.scq_check.specs.Failures.{AreFailures, IsFirstBefore, AreFailuresBefore}
pub use Rattle.scq_check.specs.Failures.{failures_with}
pub use Rattle.scq_check.specs.Refused.{IsSpentAt, IsRefused, IsAcceptedAt, NotSpentBefore}
pub use Rattle.scq_check.specs.Refused.{NamesNoPut, IsRefusals}
pub use Rattle.scq_check.specs.Waiting.{IsLeftOut, IsTokenLeftOut, IsPutLeftOut, told_of, IsToldPut}
pub use Rattle.scq_check.specs.Waiting.{IsToldWithin}
pub use Rattle.scq_check.specs.Counterparts.{IsOrigin, IsOfOrigin, NamesNone, IsOriginWithin}
pub use Rattle.scq_check.specs.Counterparts.{IsRepeatOf, IsOfRefused, AtFirst}
pub use Rattle.scq_check.specs.Full.{IsTaking, IsFreeing, HoldsBefore, held_at_start, MayBeFullAt}
pub use Rattle.scq_check.specs.Full.{IsFullWithin, IsFullRightAt, NoPutAt}
pub use Rattle.scq_check.specs.Full.{IsUsedUp, one_more_if, untouched, places_in, IsFullBy}
pub use Rattle.scq_check.specs.Full.{ArePlacesOf, ArePlacesAt, IsFilling, IsGetting, IsEmptying}
pub use Rattle.scq_check.specs.Full.{MayFitAt, IsFittingAt, KeepsRoomAt, NoGetAt, GetsBy}
pub use Rattle.scq_check.specs.Full.{AreGetters, AreKnown, HasPlace}
pub use Rattle.scq_check.specs.Endings.{EndsAs, EndsSo, AreEndings}
pub use Rattle.scq_check.specs.Tokens.{IsTokenBelow, IsTokenInOrderAt, IsGetOfToken}
pub use Rattle.scq_check.specs.Tokens.{AreTokenTallies}
pub use Rattle.scq_check.specs.Found.{AreFoundOf, AreFound}
