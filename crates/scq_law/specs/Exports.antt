-- What proofs and other crates import of these files.
pub use Rattle.scq_law.specs.Run.{Recorded, recorded_reply, starts, end_of, end_if_idle, puts_after}
pub use Rattle.scq_law.specs.Run.{placer_after, is_reset, resets_after, fails_after, recorded_after}
pub use Rattle.scq_law.specs.Run.{recorded_by, name_of_none, first_placer, recorded_first}
pub use Rattle.scq_law.specs.Run.{recorded_along, recorded_of, IsRun}
pub use Rattle.scq_law.specs.Runs.{EndsRun}
pub use Rattle.scq_law.specs.Places.{Maker, opening_put, call_of, HasLanded, LooksAt, GaveUp}
pub use Rattle.scq_law.specs.Places.{IsPlacedBy, at_opening, in_record, under_way, IsTakenBy}
pub use Rattle.scq_law.specs.Places.{IsTaken, IsUntaken, OneLooks, AllIdle, PlacesOnce}
pub use Rattle.scq_law.specs.Standing.{StandsInSlot, StandsFor, EntriesMatchPlaces}
pub use Rattle.scq_law.specs.Hands.{times, Home, hand_of, in_slot, IsHome, IsSeen, OneHand}
pub use Rattle.scq_law.specs.Bounds.{enqueues, WithinWindow, in_flight, attempts_in_flight}
pub use Rattle.scq_law.specs.Bounds.{SomePutEndedAt, IsFinished, ThresholdCovers, FailsBounded}
pub use Rattle.scq_law.specs.Bounds.{tally, was_put, is_putting, openings, TicketsBounded}
pub use Rattle.scq_law.specs.Bounds.{NoneSpentWithinLimit}
pub use Rattle.scq_law.specs.Later.{IsLater, at_once, by_step}
pub use Rattle.scq_law.specs.Acts.{act_of, IsOnRing, starts_by, puts_after_act, names_by, resets_by}
pub use Rattle.scq_law.specs.Acts.{fails_by, ended_in}
pub use Rattle.scq_law.specs.Names.{name_at, placer_in}
pub use Rattle.scq_law.specs.Replay.{Counts, ReplaysRun, StopsAt}
pub use Rattle.scq_law.specs.ReplayLaws.{ObeysStateLaws, CountsHold, ObeysLaws, ObeysRunLaws}
pub use Rattle.scq_law.specs.Recording.{Shows, CountsCanRise, finishes_by, AddsTurn}
pub use Rattle.scq_law.specs.History.{HistoryHasAspects}
pub use Rattle.scq_law.specs.Plain.{ends_put, name_of_put}
pub use Rattle.scq_law.specs.ShownCalls.{ended_call, calls_from, calls_shown, AskedFor, AllShown}
pub use Rattle.scq_law.specs.ShownCalls.{HistoryShowsRecords}
pub use Rattle.scq_law.specs.EmptyCalls.{IsEmptyAtCall}
pub use Rattle.scq_law.specs.Moments.{IsMoment, RisesThroughout}
pub use Rattle.scq_law.specs.Sums.{sum_to}
pub use Rattle.scq_law.specs.Kept.{has_index, left_in, left_below, was_done, was_got, has_placed}
pub use Rattle.scq_law.specs.Kept.{gets_of, puts_of, Balanced, AllKept}
pub use Rattle.scq_law.specs.Spent.{EndedSpent, SpentKept}
pub use Rattle.scq_law.specs.Begun.{starts_put, puts_started, EnqueuesBegun}
pub use Rattle.scq_law.specs.Retries.{FindsAtLeast, Rises, RetriesRise}
pub use Rattle.scq_law.specs.CallSteps.{top, ticket_steps, steps_past, ticket_steps_from}
pub use Rattle.scq_law.specs.CallSteps.{call_steps, steps_left, CallsEnd, steps_of, FewSteps}
pub use Rattle.scq_law.specs.Lasting.{PlacesLast, PlacesLastThroughout}
pub use Rattle.scq_law.specs.RunSteps.{run_of, recorded_before, state_before, recorded_last}
pub use Rattle.scq_law.specs.RunSteps.{last_state, IsFinishedRun, Makes, IsStepOf, HasEnded}
pub use Rattle.scq_law.specs.RunSteps.{DrawsPut, DrawsGet, IsLowestBusy, IsUnfinished}
pub use Rattle.scq_law.specs.Prefixes.{IsPrefix, AllPrefixes, IsRecordAfter, IsPrefixOfRun}
pub use Rattle.scq_law.specs.Spans.{RestsAt, CallsApart}
pub use Rattle.scq_law.specs.Points.{Decides, IsDecidingStep, DecidesBefore, IsPutPoint}
pub use Rattle.scq_law.specs.Points.{IsPointOfPlace, of_call, IsGetPoint}
pub use Rattle.scq_law.specs.Order.{Key, key, IsEarlier, HasKey, of_nothing, of_put, of_get}
pub use Rattle.scq_law.specs.Order.{IsOrderable, by_done, by_got, by_nothing, IsLinearization}
pub use Rattle.scq_law.specs.Order.{EndedBefore, LiesWithin, AnswersPlainly, IsOneOrder}
pub use Rattle.scq_law.specs.Notes.{marked, put_note, get_note, refusal_note, end_note, level_note}
pub use Rattle.scq_law.specs.Notes.{note_of, puts_by, gets_by, decided_by, decisions_by, Rise}
pub use Rattle.scq_law.specs.Notes.{IsPutMark, is_on, mark_or, IsMarkedKey, AddsMember, calls_by}
pub use Rattle.scq_law.specs.Notes.{AddsStep, token, tokens_below, tokens_of, IsUnmarked, IsNoLater}
pub use Rattle.scq_law.specs.Notes.{AreInKeyOrder, HoldsOrder, IsMarkedRun}
pub use Rattle.scq_law.specs.Progress.{delays, quiet_steps, alone_steps, progress_bound}
pub use Rattle.scq_law.specs.Progress.{ended_calls, HasProgress, ring_ended, end_delay, delay_on}
pub use Rattle.scq_law.specs.Progress.{WholeCallIsDelayedByEnds, DelayedByEnds, EndsAlone}
pub use Rattle.scq_law.specs.RecordedSteps.{IsRecording}
