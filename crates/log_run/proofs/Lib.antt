pub mod ReadLaws
pub mod BatchLaws
pub mod StaysLaws
pub mod RunLaws
pub mod OneBatch
pub mod JoinLaws
pub mod EndLaws
pub mod WordsLaws
