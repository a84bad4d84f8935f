pub mod KnownLaws
pub mod SeatLaws
pub mod Shared
pub mod WorkerLaws
