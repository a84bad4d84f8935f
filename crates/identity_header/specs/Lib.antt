pub mod Parts
pub mod FieldText
pub mod Spelling
pub mod Reading
pub mod Views
pub mod Read
pub mod OneLine
