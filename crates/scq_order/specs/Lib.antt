pub mod Orders
pub mod Exports
