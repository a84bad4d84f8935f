pub mod Pairs
pub mod Rule
pub mod Steps
pub mod Holder
pub mod Past
