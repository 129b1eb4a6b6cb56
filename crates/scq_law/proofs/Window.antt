pub mod FailedTickets
pub mod FailCauses
pub mod TicketFlows
pub mod CoverKept
pub mod OneToOne
pub mod WindowOfCover
pub mod CoverThroughout
