pub mod FinishedPlaced
pub mod Covering
pub mod FailsBound
pub mod EmptyDecisions
