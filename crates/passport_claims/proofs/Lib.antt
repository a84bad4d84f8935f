mod ClaimsLaws
pub mod FirstLaws
pub mod KindLaws
mod KindTexts
mod MemberLaws
mod MemberSizes
pub mod OrigidLaws
mod PassportLaws
mod RefusedLaws
mod RefusedSteps
pub mod SignedLaws
mod SignableLaws
mod SizeLaws
mod ValueLaws
pub mod WayLaws
pub mod TurnLaws
pub mod LinkLaws
pub mod OrderLaws
pub mod StartLaws
pub mod OrderFaultLaws
pub mod OrderFaultAgain
pub mod GoesOnLaws
