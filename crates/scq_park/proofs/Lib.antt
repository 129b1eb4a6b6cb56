pub mod Keeps
mod Rows
mod Ends
pub mod Crossing
pub mod Firsts
