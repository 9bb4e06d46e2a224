pub mod TicketTotals
pub mod Drawing
