pub mod Sweeping
pub mod Waiting
pub mod Threads
pub mod Places
pub mod Resting
pub mod Exports
