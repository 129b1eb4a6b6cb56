pub mod Answered
pub mod Answering
pub mod Digits
pub mod InRange
pub mod Named
pub mod Refusals
mod Rows
