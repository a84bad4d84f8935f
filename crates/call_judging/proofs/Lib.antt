pub mod CauseLaws
pub mod FetchedLaws
pub mod ListLaws
pub mod ReadLaws
mod JudgeLaws
mod LastLaws
pub mod TextBack
pub mod ExplainSteps
pub mod ExplainLaws
pub mod ExplainBack
pub mod AskLineLaws
pub mod ListSteps
pub mod ChainSteps
pub mod OwnSteps
pub mod StateLaws
pub mod VerdictLaws
pub mod AskedForLaws
pub mod CallLaws
pub mod AgreeLaws
pub mod SizeLaws
