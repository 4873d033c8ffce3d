mod BlockLemmas
mod VisitLemmas
mod SlotLemmas
pub mod GeometryLemmas
pub mod InPlaceLemmas
pub mod AmongLemmas
pub mod NumberLemmas
mod LinkLemmas
pub mod StoreLemmas
pub mod KeptLemmas
mod ReadLemmas
pub mod VisitedLemmas
pub mod FoundLemmas
pub mod StandLemmas
pub mod PlanLemmas
mod SpelledLemmas
pub mod PlannedLemmas
pub mod FreshLemmas
pub mod FixedLemmas
pub mod MapLemmas
pub mod OrderLemmas
pub mod BehindLemmas
pub mod ArrayPlanLemmas
pub mod WriteLemmas
pub mod CreatedLemmas
pub mod NumberedLemmas
pub mod TableLemmas
pub mod NamingLemmas
pub mod FileLemmas
mod UnseenLemmas
