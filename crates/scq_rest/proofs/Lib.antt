mod Waited
mod Wakes
mod PlaceLemmas
mod WorkSent
pub mod Settling
