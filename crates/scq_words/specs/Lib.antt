pub mod Numbers
pub mod Commands
pub mod Asked
pub mod Parsing
pub mod Ranges
pub mod Texts
pub mod Exports
