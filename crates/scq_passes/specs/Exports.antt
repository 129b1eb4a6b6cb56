-- What proofs and other crates import of these files.
pub use Rattle.scq_passes.specs.Records.{is_got, is_put, is_lend, is_take, HoldsNothingAtEachFull}
pub use Rattle.scq_passes.specs.Records.{AfterEachFull, HelpsAfterEachFull, HelpsOnceAfterEachFull}
pub use Rattle.scq_passes.specs.Records.{on, Puts, AreTakesFollowed, and_got, and_found_none}
pub use Rattle.scq_passes.specs.Records.{IsGivenBack, IsReturn, AreReturns, MeetsNoSpent}
pub use Rattle.scq_passes.specs.Together.{Apart, NothingIsLeft, all_sends, all_takes, SendsAreTakes}
pub use Rattle.scq_passes.specs.Together.{NoPlaceStandsTwice, HasRetired, NoneSpent, IsBounded}
pub use Rattle.scq_passes.specs.Together.{HasSwept}
pub use Rattle.scq_passes.specs.Calls.{index_of, Suits, KnowsMore, KnowsItsSends, HasTakenFollowed}
pub use Rattle.scq_passes.specs.Calls.{HasTaken, since, taken_since, TookNoneBelow, HasSentSo}
pub use Rattle.scq_passes.specs.Calls.{HasFoundFull, IsBetweenParts, HasFewCalls, HasLeftSo}
pub use Rattle.scq_passes.specs.Calls.{HasLeft, takes_left, calls_before, calls_behind}
pub use Rattle.scq_passes.specs.Calls.{after_retire}
pub use Rattle.scq_passes.specs.Leaving.{TookNothing, MetTopicEmpty, EndsAtEmpty, HasOnlyCalled}
pub use Rattle.scq_passes.specs.Leaving.{IsSweep, AreSweeps, no_sweep, and_some, and_idle}
pub use Rattle.scq_passes.specs.Leaving.{HasSweptLast, HasLeftSwept}
pub use Rattle.scq_passes.specs.Waiting.{vain_takes, TookInVain, TookMore, HelpsInVain}
pub use Rattle.scq_passes.specs.Waiting.{SweepsInVain}
pub use Rattle.scq_passes.specs.Taking.{HasTakenFrom, HasEmptied, HasEmptiedAll}
pub use Rattle.scq_passes.specs.AllPasses.{IsSetup, OfEachWorker, HaveShared, lengths_of}
pub use Rattle.scq_passes.specs.PassedOn.{ArePassedOn, and_sent, and_made, EachHasItsCall}
pub use Rattle.scq_passes.specs.Becoming.{BecomeSoFar, and_became, and_passed_over}
pub use Rattle.scq_passes.specs.Jobs.{IsJob}
pub use Rattle.scq_passes.specs.Closed.{HasClosed}
