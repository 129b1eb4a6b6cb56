pub mod WordLemmas
pub mod Counting
pub mod TicketLemmas
pub mod BoundLemmas
pub mod EntryLemmas
pub mod ColumnLemmas
