pub mod Lists
pub mod Passes
pub mod Calls
pub mod Closing
pub mod Kept
pub mod HoldsJust
pub mod Exports
