pub mod Reading
pub mod Holding
pub mod Orders
mod Rows
mod CallLemmas
mod PutLemmas
mod GotLemmas
mod TableLemmas
mod QueueLemmas
mod Saved
mod FailureLemmas
mod RefusedLemmas
mod WaitingLemmas
mod CounterpartLemmas
mod FullLemmas
mod TokenLemmas
mod EndingLemmas
mod EndedLemmas
