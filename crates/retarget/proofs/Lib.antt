pub mod BeenLaws
pub mod CauseLaws
pub mod CallLaws
pub mod GatewayLaws
pub mod NextLaws
pub mod OnwardLaws
pub mod OrderLaws
pub mod WrittenLaws
mod AskLaws
