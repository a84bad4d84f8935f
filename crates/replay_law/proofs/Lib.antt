pub mod Users
pub mod LegalLaws
pub mod TurnLaws
pub mod Joining
pub mod LogLaws
pub mod OneLaws
mod RunLaws
mod Places
mod FirstLaws
mod DayLaws
