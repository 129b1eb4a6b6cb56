-- What proofs and other crates import of these files.
unfoldable pub use Rattle.scq_band.specs.Layout.{at, ring_of_word, column_bits, entry_offset}
pub use Rattle.scq_band.specs.Layout.{entry_at, ring_at, IsSlotAt, IsLocation, offset_of}
pub use Rattle.scq_band.specs.Layout.{remainder_of, largest_lined_order, number_in_ring}
pub use Rattle.scq_band.specs.Layout.{ring_words, count_by, word_by, ring_by, gate_word, distance}
pub use Rattle.scq_band.specs.Layout.{word_count, IsHot, StandApart, HotWordsAreApart}
pub use Rattle.scq_band.specs.Numbers.{before_places, first_numbers_of, first_numbers, known_of}
pub use Rattle.scq_band.specs.Numbers.{IsTrue, finishes, sees, passes, drew, empties, RisesInHead}
pub use Rattle.scq_band.specs.Numbers.{larger, changed, raised_by}
pub use Rattle.scq_band.specs.Known.{Member, nobody, note_of_view, behind_first, first_alone}
pub use Rattle.scq_band.specs.Known.{others_of, first_of, lower_gate, both_of}
pub use Rattle.scq_band.specs.RunSeen.{EndsWith, Seen, nothing_seen, with_run, both_seen}
pub use Rattle.scq_band.specs.RunSeen.{with_retiree, Caller, IsCallInRun, WasEmptyInRun}
pub use Rattle.scq_band.specs.RunSeen.{IsReadingInRun, IsMomentInRun, WasFoundInRun}
pub use Rattle.scq_band.specs.RunSeen.{WasCountedInRun, AllWereSeenRetired, AreComparable}
pub use Rattle.scq_band.specs.RunSeen.{EachTwoPrefixesAreComparable, HaveSeenOneRun, HaveMet}
pub use Rattle.scq_band.specs.Shown.{Scene, awake, LeadsTo, ShowsWords, StandsAmong, StandsInAView}
pub use Rattle.scq_band.specs.Shown.{Has, Stored, IsMember, Owns, IsView, first_members, first_view}
pub use Rattle.scq_band.specs.Knowing.{EachViewKnowsTruth}
pub use Rattle.scq_band.specs.Turns.{learned, turned_member, made, FindsIndex, Draws}
pub use Rattle.scq_band.specs.Turns.{IsPastFirstRound, MayTurn, Fronts, Takes, Carries}
pub use Rattle.scq_band.specs.Turns.{SlotsAfter, Turned}
pub use Rattle.scq_band.specs.Buffers.{LiesIn, opening_of}
pub use Rattle.scq_band.specs.Steps.{my_of, my, my_phase, front_index, bytes_in, front_bytes}
pub use Rattle.scq_band.specs.Steps.{loading, drawing, load_turn, draw_turn, OnlyReads, IsDraw}
pub use Rattle.scq_band.specs.Steps.{Exchanges, IsReset, IsTakingTurn, IsCountDown}
pub use Rattle.scq_band.specs.Sights.{Sight, known_in, known_me, known_state, StandsAfter, Went}
pub use Rattle.scq_band.specs.Sights.{GoesOn, retired_ones, Looked, WasShownRun, HasFound}
pub use Rattle.scq_band.specs.Sights.{mark_with, mark_sight, note_sight, spent_sight, others_sight}
pub use Rattle.scq_band.specs.Sights.{first_sight_of, both_sight, first_sight, ShowsRun}
pub use Rattle.scq_band.specs.Seats.{IsAlone, with_part, at_phase, seated, goes_to, placed_to}
pub use Rattle.scq_band.specs.Seats.{done_at, put_at, got_at, nothing_at, spent_at, put_index}
pub use Rattle.scq_band.specs.Seats.{content_of, least_of, IsLooking, IsEnding, IsToDraw, HasPut}
pub use Rattle.scq_band.specs.Seats.{HasSpentPut, SeatHasGot, drew_head, HasGotAfter, none_at}
pub use Rattle.scq_band.specs.Seats.{HasFoundNone, drawn_spent, HasSpentGet, to_draw, looked}
pub use Rattle.scq_band.specs.Seats.{retired_at}
pub use Rattle.scq_band.specs.Rings.{IsRing, IsFilled, IsPlainlyVacant, RingsFrom, AreRings}
pub use Rattle.scq_band.specs.Standing.{Identity, IsReading, NoteStanding, first_standing}
pub use Rattle.scq_band.specs.Standing.{first_standings, in_hand, laid_bytes, bytes_in_hand}
pub use Rattle.scq_band.specs.Standing.{without_index, with_buffer, having_seen, caller_of}
pub use Rattle.scq_band.specs.Standing.{seat_after_put, seat_after_get, seat_after_nothing}
pub use Rattle.scq_band.specs.Standing.{seat_after_spent_put, seat_after_spent_get, IsAsGiven}
pub use Rattle.scq_band.specs.Standing.{SeatHasTaken, SeatHasPut, SeatHasDequeued}
pub use Rattle.scq_band.specs.Standing.{SeatFoundEmpty, SeatFoundNone, MarkStanding}
pub use Rattle.scq_band.specs.Kept.{noted, AreNoted, buffer_in, hand_of, identity_of, standing_from}
pub use Rattle.scq_band.specs.Kept.{standing_of, AllGiven, IsSmall, AreSmall, IsKept, IsRotation}
pub use Rattle.scq_band.specs.Kept.{StandsFirst}
pub use Rattle.scq_band.specs.Kept.{note_with, note_sight_with, seen_in}
pub use Rattle.scq_band.specs.Homes.{at_home, IsBrought, MayBring, full_slot, times_lifted}
pub use Rattle.scq_band.specs.Homes.{IsLaidBack, AreHoles, AreHome, WentHome, OutOrHome}
pub use Rattle.scq_band.specs.Homes.{AllOutGiven}
pub use Rattle.scq_band.specs.Homes.{MayLeave, IsMemberOf, AreMembersOf, HeadsKnown, GatesKnown}
pub use Rattle.scq_band.specs.Homes.{HasAll, all_seen, SeatsAreGathered}
pub use Rattle.scq_band.specs.Closing.{CallEndedSo, SomeCallEndedSo, WasPut, EachGetHasItsPut}
pub use Rattle.scq_band.specs.Closing.{NoneIsPutTwice, NoneIsGotTwice, EachPutPassedIsGot, gets_on}
pub use Rattle.scq_band.specs.Closing.{begun_on, IsBalance, IsAllThere, EachSpentIsPastTheBound}
pub use Rattle.scq_band.specs.Closing.{NoneIsSpentWithinTheLimit, indices_of, lifted_of, with_laid}
pub use Rattle.scq_band.specs.Closing.{HoldsLifted}
pub use Rattle.scq_band.specs.Closing.{laid_of, held_buffers, ComesBackAsItWas, IsLeft}
pub use Rattle.scq_band.specs.Closing.{EachIsInOneHand, EachLeftIsItsPut, AreTheSame}
pub use Rattle.scq_band.specs.Closing.{AllRetiredWhereClosed, EachSeenRetiredHas, all_calls}
pub use Rattle.scq_band.specs.Closing.{all_hands, all_known, all_spent, callers_of, AreTheLifted}
pub use Rattle.scq_band.specs.Closing.{IsOneRun, StandsAtItsPut, IsOneRunToTheEnd}
pub use Rattle.scq_band.specs.SeenCalls.{EachSeenCallComesFirst, EachCallInARunSeenComesFirst}
pub use Rattle.scq_band.specs.Making.{AllLaid, lifted, HoldsNone, IsRoom, WordsAreOpened}
pub use Rattle.scq_band.specs.Making.{first_below, sight_below}
