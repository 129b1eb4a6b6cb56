-- What proofs and other crates import of these files.
pub use Rattle.scq_hist.specs.Calls.{under_way_after, under_way, put_start, puts_before, IsCall}
pub use Rattle.scq_hist.specs.Calls.{IsPut, IsDoneAt, IsFinishedAt, Names, IsGot, IsGetOf}
pub use Rattle.scq_hist.specs.Calls.{IsGotBefore, IsPending}
pub use Rattle.scq_hist.specs.Counts.{AtMostAsMany, StandsIn, Distinct, IsCount}
pub use Rattle.scq_hist.specs.Aspects.{SuitsCall, IsAnswer, IsLawfulAt, IsLawful, IsBegun}
pub use Rattle.scq_hist.specs.Aspects.{IsFreshAt, IsFresh, IsOnceAt, IsOnce, IsClaimed, AllClaimed}
pub use Rattle.scq_hist.specs.Aspects.{Precedes, IsInOrderAt, IsInOrder, IsRightWithin}
pub use Rattle.scq_hist.specs.Aspects.{IsEmptyRightAt, IsEmptyRight, HasAspects}
pub use Rattle.scq_hist.specs.Lookups.{StartsCall, StartsNoCall, HasUnderWay, got_name}
pub use Rattle.scq_hist.specs.Lookups.{IsFirstNamed, NoPutBefore, call_start, EndsNoGet, EndsDone}
pub use Rattle.scq_hist.specs.Lookups.{NoDoneAt}
pub use Rattle.scq_hist.specs.Tallies.{HasLateGet, IsTally, AddsUngot, AddsGot, AddsPut}
pub use Rattle.scq_hist.specs.Tallies.{IsTokenGotAt, NoTokenGotAt, IsPutGotAt, NoPutGotAt}
pub use Rattle.scq_hist.specs.Tallies.{IsEmptyAt, NoEmptyAt}
pub use Rattle.scq_hist.specs.First.{IsFirstFailing}
pub use Rattle.scq_hist.specs.Ended.{put_reply, EndsNoPut, EndsPut, NoneEnds, NoPutEnds}
pub use Rattle.scq_hist.specs.Ended.{FindsSomething}
