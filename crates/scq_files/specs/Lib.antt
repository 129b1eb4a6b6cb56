pub mod Given
pub mod Files
pub mod Reading
pub mod Ends
pub mod OwnFiles
pub mod Desks
pub mod Handling
pub mod Exports
