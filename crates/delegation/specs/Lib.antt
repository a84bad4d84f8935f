pub mod Coverage
pub mod Gathered
pub mod Usage
pub mod Anchors
pub mod Path
pub mod PathFaults
pub mod Seen
pub mod Decided
