pub mod Sums
pub mod LeftTurns
pub mod KeptLaws
