pub mod Spans
pub mod VecOfBytes
pub mod FrameLists
pub mod Sorting
pub mod BlockFrames
pub mod FramesSent
