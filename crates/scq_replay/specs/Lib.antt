pub mod Schedule
pub mod Printed
pub mod Replay
pub mod Steps
pub mod OrderText
pub mod OrderSteps
pub mod Exports
