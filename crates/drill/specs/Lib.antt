pub mod Alike
pub mod Command
pub mod Counts
pub mod Drilled
pub mod Files
pub mod Speaking
pub mod Summary
pub mod Winners
