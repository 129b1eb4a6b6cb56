-- What proofs and other crates import of these files.
pub use Rattle.scq_core.specs.Updated.{updated}
pub use Rattle.scq_core.specs.Machine.{beside, Entries, Cells, SeatPart, Location, tail_of, head_of}
pub use Rattle.scq_core.specs.Machine.{threshold_of, entry_of, location_at, read, updated_entry}
pub use Rattle.scq_core.specs.Machine.{written}
pub use Rattle.scq_core.specs.Table.{writes, reset_level, ring_slots, cycle, slot, hand_without}
pub use Rattle.scq_core.specs.Table.{holds_index, turn_at, turn_of, next_step, ring_of, cell_of}
pub use Rattle.scq_core.specs.Table.{location_of, moved, passed, stores, goes_on, ends, spends}
pub use Rattle.scq_core.specs.Table.{after, cells_after, step_of}
unfoldable pub use Rattle.scq_core.specs.Table.{zero_level}
pub use Rattle.scq_core.specs.Start.{unused, filled, filled_contents, start_cells, idle_part}
pub use Rattle.scq_core.specs.Start.{start_of}
pub use Rattle.scq_core.specs.Stances.{Stance, resting, drawing, putting, landed, asking, seeking}
pub use Rattle.scq_core.specs.Stances.{trying, gave_up, stance_of, placed_ring, put_ring}
pub use Rattle.scq_core.specs.Stances.{attempt_ring, entered_ring, one_on}
pub use Rattle.scq_core.specs.Reach.{IsReachable, at_start, by_step}
pub use Rattle.scq_core.specs.Laws.{IsAbove, RankRises, CountersRise, word_at, Offers, Drawn, Lags}
pub use Rattle.scq_core.specs.Laws.{Busy, IsSteady, total, spent_of, dequeues, spent_seats}
pub use Rattle.scq_core.specs.Laws.{dequeues_of, CountersBounded, ThresholdFloor, CyclesBounded}
pub use Rattle.scq_core.specs.Laws.{StartsFull, WordsFit, Grows, RecordsGrow, ChangesOne}
pub use Rattle.scq_core.specs.Laws.{CatchUpLags}
pub use Rattle.scq_core.specs.Rings.{RingLists, IsCell, word_in, content_in, ring_with}
pub use Rattle.scq_core.specs.StateLists.{no_slot, no_ring, ring_in, cells_of, part_in, machine_of}
pub use Rattle.scq_core.specs.StateLists.{HasRings, IsCellOf, IsState}
pub use Rattle.scq_core.specs.Turn.{ring_under_way, started, copied, needs_copy, copies_content}
pub use Rattle.scq_core.specs.Turn.{TakesMemory, ends_call, IsReady}
pub use Rattle.scq_core.specs.Advance.{found_by, beside_by, CanTurn, rings_after, WantsMemory}
pub use Rattle.scq_core.specs.Advance.{Advances}
pub use Rattle.scq_core.specs.Fresh.{empty_ring, SlotsAreFilled, IsFullRing, IsStart}
