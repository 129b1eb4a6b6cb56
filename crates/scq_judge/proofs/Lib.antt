pub mod ReadLemmas
pub mod SourceLemmas
pub mod MergeLemmas
mod SeatLemmas
pub mod CountLemmas
pub mod JudgeLemmas
pub mod ReaderLemmas
pub mod TextLemmas
mod RightLemmas
mod OwnCallLemmas
mod ListLemmas
mod TokenLemmas
mod WalkLemmas
mod OrderTextLemmas
