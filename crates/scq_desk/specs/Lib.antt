pub mod Seats
pub mod Rooms
pub mod Faults
pub mod GoingOn
pub mod Ends
pub mod Brought
pub mod Exports
