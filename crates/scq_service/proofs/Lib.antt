pub mod Coming
pub mod Completeness
pub mod Files
pub mod Merging
pub mod Named
pub mod OneFile
pub mod ReportLines
pub mod Seen
mod Rows
pub mod Working
pub mod Writings
mod Judging
mod Told
