pub mod Hands
pub mod Records
pub mod HeldValues
pub mod Leaving
pub mod PassSteps
pub mod NewPasses
mod Ends
pub mod HeldOnce
pub mod PassesSent
pub mod QueuesShared
