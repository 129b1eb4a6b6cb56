pub mod Lines
pub mod Exports
