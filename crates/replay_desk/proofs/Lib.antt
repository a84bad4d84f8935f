mod Keeping
mod ListLaws
mod PastLaws
mod Words
pub mod Shared
