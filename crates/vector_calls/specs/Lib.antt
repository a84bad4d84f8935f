pub mod Known
pub mod Workers
