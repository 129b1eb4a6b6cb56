-- What proofs and other crates import of these files.
pub use Rattle.scq_queue.specs.Lists.{Placed, sent_by, taken_by, sends_of, takes_of, was_full}
pub use Rattle.scq_queue.specs.Lists.{fulls_in, on_topic, with_send, with_take, with_full, with_put}
pub use Rattle.scq_queue.specs.Lists.{with_got, counted, counts_of}
pub use Rattle.scq_queue.specs.Passes.{PassStanding, HeldStanding, without, was_told, first_pass}
pub use Rattle.scq_queue.specs.Passes.{first_passes, lists_of, known_on, IsHeldBy, having_seen}
pub use Rattle.scq_queue.specs.Passes.{caller_of, after_put, after_get, after_spent_put}
pub use Rattle.scq_queue.specs.Passes.{after_spent_get, after_look, HasGot, WasLent, WasGivenBack}
pub use Rattle.scq_queue.specs.Passes.{FoundNothing, FoundEmpty, FoundFull}
pub use Rattle.scq_queue.specs.Calls.{CameOff, WasLentOfQueue, WasPutOn, FoundRingEmpty}
pub use Rattle.scq_queue.specs.Calls.{FoundTopicEmpty, FoundNoneFree, WasSpent, GetWasSpent}
pub use Rattle.scq_queue.specs.Calls.{PutWasSpent, IsInRun}
pub use Rattle.scq_queue.specs.Closing.{records_of, callers_of, all_held, WasSent, WasTaken}
pub use Rattle.scq_queue.specs.Closing.{EachTakeIsASend, NoPlaceIsSentTwice, NoPlaceIsTakenTwice}
pub use Rattle.scq_queue.specs.Closing.{sends_on, takes_on, IsBalance, EachSendPassedIsTaken}
pub use Rattle.scq_queue.specs.Closing.{IsAllThere, AllFullsStand, EachKeptIsPastTheBound}
pub use Rattle.scq_queue.specs.Closing.{NoneIsKeptWithinTheLimit, AllRetiredWhereTold}
pub use Rattle.scq_queue.specs.Closing.{EachSeenRetiredHas, AreTheHeld, SentAndTook, NoneIsLost}
pub use Rattle.scq_queue.specs.Closing.{KeptSpeakOfTheLimit, RetiredAsTold}
pub use Rattle.scq_queue.specs.Kept.{heads_of, all_lifted, pass_over, seat_of_pass, AreLifted}
pub use Rattle.scq_queue.specs.Kept.{StaysLifted, IsPass, held_of, value_of, HasGivenBuffer}
pub use Rattle.scq_queue.specs.Kept.{IsQueue}
pub use Rattle.scq_queue.specs.HoldsJust.{AllOf}
