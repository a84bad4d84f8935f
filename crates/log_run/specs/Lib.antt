pub mod Batch
pub mod Commands
pub mod Reading
pub mod Streams
pub mod Running
pub mod Ending
pub mod Words
pub mod Speaks
