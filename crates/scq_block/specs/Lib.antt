pub mod Frames
pub mod Blocks
pub mod Exports
