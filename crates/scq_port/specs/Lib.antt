pub mod Ports
pub mod Calls
pub mod Kept
pub mod Ends
pub mod Closed
pub mod Numbers
pub mod Exports
