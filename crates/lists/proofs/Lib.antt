pub mod Bytes
pub mod GivenLaws
pub mod Options
pub mod StepLaws
pub mod Tests
