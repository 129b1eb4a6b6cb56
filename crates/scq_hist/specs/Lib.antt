pub mod Calls
pub mod Counts
pub mod Aspects
pub mod Lookups
pub mod Tallies
pub mod First
pub mod Ended
pub mod Exports
