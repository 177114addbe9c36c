pub mod TicketRule
pub mod TicketAtOnce
pub mod TicketPolls
