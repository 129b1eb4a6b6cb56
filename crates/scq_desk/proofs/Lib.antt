pub mod Settled
pub mod Faults
pub mod Apart
pub mod Passes
pub mod Ends
