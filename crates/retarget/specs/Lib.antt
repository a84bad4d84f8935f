-- What the contracts of this crate say.
pub mod Answer
pub mod Asking
pub mod Below
pub mod Causes
pub mod Hop
pub mod NextHop
pub mod Onward
pub mod Outcome
pub mod Promise
pub mod Screened
pub mod Verdicts
pub mod Written
