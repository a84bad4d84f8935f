pub mod TestLaws
pub mod CountLaws
pub mod FollowLaws
pub mod CallLaws
pub mod LastLaws
pub mod LineLaws
pub mod ListLaws
pub mod ReadBack
pub mod RoundLaws
pub mod PastLaws
mod TextLaws
mod NeededLaws
mod FetchedLaws
mod OwnPlaceLaws
mod WorkerChainLaws
mod KeptLaws
mod RightLaws
mod ThereLaws
mod StoreAllLaws
mod UnheldLaws
mod KnownLaws
mod ItemLaws
mod ReportLaws
mod SpellingLaws
mod StatesLaws
mod StoringLaws
mod ReadyLaws
mod ReadyChainLaws
mod AsideLaws
mod OwnLaws
mod TouchLaws
mod JudgedChainLaws
mod RoundThereLaws
mod RoundAsideLaws
mod RoundHeldLaws
mod RoundAllLaws
mod FewLaws
mod RoundTextLaws
mod ClaimLaws
mod OutLaws
mod GainLaws
mod ClaimedLaws
mod AnsweredLaws
mod JoinLaws
mod SeatLaws
mod TogetherLaws
mod AddLaws
mod CallRowLaws
mod CarriedLaws
mod EntryClassLaws
mod PairLaws
mod RoomLaws
mod EachCallLaws
mod ClassLaws
mod KeepingLaws
mod HandingLaws
mod SeatingLaws
mod PreparedLaws
mod PrepareLaws
mod ContentLaws
mod RunTimeLaws
mod RunLaws
