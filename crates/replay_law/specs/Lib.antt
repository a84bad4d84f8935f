pub mod Row
pub mod Held
pub mod Round
pub mod Log
pub mod Turn
pub mod Law
pub mod Runs
pub mod ByFirst
