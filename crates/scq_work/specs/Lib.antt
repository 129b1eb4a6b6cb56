pub mod AllWorkers
pub mod Ends
pub mod Exports
