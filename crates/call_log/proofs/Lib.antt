pub mod DigitLaws
pub mod EntrySteps
pub mod HeaderLaws
pub mod LogLaws
pub mod MessageSteps
pub mod NumberSteps
pub mod SupplyLaws
pub mod AheadLaws
