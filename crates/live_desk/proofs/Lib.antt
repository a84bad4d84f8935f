mod Words
mod Tickets
pub mod Sums
mod Trails
mod Levels
mod Keeping
pub mod Searches
mod Sights
mod Exactly
mod Meaning
pub mod Facts
