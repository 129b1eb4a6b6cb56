-- What proofs and other crates import of these files.
pub use Rattle.scq_replay.specs.Schedule.{IsSetupLine, turn_in}
pub use Rattle.scq_replay.specs.Printed.{step_name, begins_on, call_ring, entry_words}
pub use Rattle.scq_replay.specs.Printed.{threshold_value, counter_words, threshold_words}
pub use Rattle.scq_replay.specs.Printed.{printed_ring, reply_words, head_words, step_line}
pub use Rattle.scq_replay.specs.Replay.{onto, step_gives, taken, turn_of_line, steps_from}
pub use Rattle.scq_replay.specs.Replay.{schedule_start, HasSetup, Gives, no_setup, steps_of}
pub use Rattle.scq_replay.specs.Steps.{IsMade, LineIsRefused, bad_line, not_enabled}
pub use Rattle.scq_replay.specs.OrderText.{SaysSteps, member_words, member_line, ring_lines}
pub use Rattle.scq_replay.specs.OrderText.{rings_lines, IsOrderText, HasNoOrders, at_line, at_seat}
pub use Rattle.scq_replay.specs.OrderSteps.{run_of_schedule, ScheduleLeads, IsScheduleOf, IsAdded}
pub use Rattle.scq_replay.specs.OrderSteps.{IsNumberedCall}
