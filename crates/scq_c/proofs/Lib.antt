pub mod Values
pub mod Codes
pub mod Somes
pub mod Handed
pub mod Openings
pub mod Written
pub mod Rows
