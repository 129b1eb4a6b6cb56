mod FlatLists
mod SameParts
mod AllAnswered
mod Conclusion
mod Told
pub mod Orders
mod AllGave
mod AllRun
mod PartMembers
mod Starved
