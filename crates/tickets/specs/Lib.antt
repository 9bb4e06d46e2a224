pub mod Tickets
pub mod TicketRule
pub mod internals
