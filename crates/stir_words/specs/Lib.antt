pub mod Options
pub mod Table
pub mod Values
pub mod Order
pub mod Rows
pub mod Seen
pub mod ClapRules
