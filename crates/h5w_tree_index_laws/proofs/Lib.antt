mod TreeReadLemmas
mod TreeVisitLemmas
pub mod TreeStandLemmas
pub mod TreePlanLemmas
pub mod TreeRangeLemmas
pub mod TreeHeaderLemmas
pub mod TreeFlushLemmas
pub mod TreeInsertLemmas
pub mod TreeMapLemmas
pub mod TreeChangeLemmas
pub mod TreeMarkLemmas
pub mod TreeDepthLemmas
mod TreePlaceLemmas
pub mod TreeLaws
pub mod TreeRestLemmas
