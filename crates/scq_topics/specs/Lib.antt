pub mod Kind
pub mod Runs
pub mod Sum
pub mod Reply
pub mod Topics
pub mod Exports
