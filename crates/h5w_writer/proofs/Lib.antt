mod SessionFields
mod BacklogLemmas
pub mod StateLemmas
pub mod AddressedLemmas
pub mod IndexLemmas
pub mod PastLemmas
pub mod EarlyLemmas
pub mod StandLemmas
pub mod CreatingLemmas
pub mod SessionStarts
pub mod TakingLemmas
pub mod RootLooks
pub mod BeginLemmas
mod RestLemmas
pub mod DatasetLemmas
pub mod LawLemmas
mod FindingLemmas
mod ValueLemmas
mod EarlyBytes
mod EarlyRowLemmas
mod ExitLemmas
mod RefusalLemmas
mod PlaceLemmas
mod AloneLemmas
mod IndexStarts
pub mod FlushLemmas
pub mod FlushStands
mod WritableLemmas
mod PieceLemmas
mod PlanLemmas
mod FlushedLemmas
mod PrepareLemmas
pub mod CarriedLemmas
pub mod HalfLemmas
pub mod StartKinds
mod StartParts
mod StartPlaces
pub mod PlannedRows
pub mod StartedLemmas
mod StartingLemmas
mod StartCarriedLemmas
pub mod NextLemmas
mod ReachedLemmas
pub mod LoadLemmas
pub mod ToldLemmas
pub mod LentLemmas
mod PassedLemmas
pub mod EarlyStands
mod EarlyLoads
mod AppendStands
mod EarlyCalls
pub mod HeaderAlone
pub mod StartLoads
pub mod HalfLoads
pub mod FlushCalls
pub mod OpenedLemmas
pub mod PartLemmas
