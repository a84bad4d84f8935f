pub mod FileSteps
pub mod FirstFault
pub mod LeafSteps
pub mod StateSteps
pub mod ListSteps
pub mod RowLaws
