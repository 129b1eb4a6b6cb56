pub mod Handles
pub mod Tallies
pub mod Codes
pub mod Answers
pub mod Answered
pub mod Many
pub mod Exports
