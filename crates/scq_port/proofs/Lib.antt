pub mod Lists
pub mod Keeping
mod Marking
pub mod Records
pub mod Going
pub mod Unpacking
pub mod Opened
pub mod Sent
pub mod EndSteps
pub mod Gathering
mod Numbered
