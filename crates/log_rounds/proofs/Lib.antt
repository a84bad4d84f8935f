pub mod ServiceLaws
pub mod NewLaws
pub mod WorkerLaws
pub mod RoundLaws
pub mod FewLaws
mod TextLaws
mod FirstLaws
mod FollowLaws
pub mod ReportLaws
pub mod LegalLaws
pub mod StatusLaws
pub mod BatchesLaws
pub mod WordsLaws
mod DayLaws
mod DaysLaws
mod KeptLaws
mod RunsLaws
mod HandedLaws
mod OutputLaws
