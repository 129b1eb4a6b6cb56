pub mod Rule
pub mod Crews
pub mod Kept
pub mod Exports
