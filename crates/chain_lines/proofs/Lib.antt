pub mod ElementLaws
pub mod SerialLaws
pub mod ShowSteps
