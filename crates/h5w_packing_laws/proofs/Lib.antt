mod GrownLemmas
mod TightLemmas
mod AgainLemmas
mod SumLemmas
pub mod RangeLemmas
pub mod MapLemmas
mod CopyLemmas
mod StandLemmas
mod TreePlanLemmas
mod TopLemmas
mod NewLemmas
mod PackedLemmas
pub mod FileLemmas
pub mod SourceLemmas
