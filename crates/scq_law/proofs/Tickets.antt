pub mod EventCounts
pub mod RunCounts
pub mod TicketLaws
pub mod SpentTickets
pub mod SpentLaws
pub mod BegunLaws
