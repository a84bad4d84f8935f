pub mod Lines
pub mod State
pub mod StateText
pub mod BadLine
pub mod Reading
pub mod Seen
