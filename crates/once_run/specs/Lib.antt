pub mod TicketText
pub mod Reading
pub mod Seen
pub mod Claims
pub mod Lines
pub mod Ran
pub mod Work
