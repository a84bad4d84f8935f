pub mod Elements
pub mod Parts
pub mod Revocation
pub mod Serial
pub mod Show
