pub mod PartLemmas
pub mod MomentLemmas
pub mod StepRepresents
pub mod FoundLemmas
pub mod StepStays
pub mod GoesLemmas
pub mod PlanLaws
pub mod WriterLaws
pub mod SessionLaws
pub mod RangeLemmas
pub mod VisitTells
pub mod ArrayVisits
pub mod TreeVisits
pub mod IndexVisits
pub mod IndexLaws
pub mod OverlapLemmas
pub mod HeaderVisits
pub mod HeaderLaws
mod DescribedLemmas
pub mod NeededLaws
pub mod NumberLemmas
pub mod WalkLemmas
pub mod ChunkLemmas
pub mod CommitLaws
mod MessageLemmas
mod HeaderFoundLemmas
pub mod HeaderDescribedLemmas
mod SpliceLemmas
pub mod ImageLemmas
pub mod FileLaws
pub mod SpelledLemmas
pub mod StepLaws
mod Examples
pub mod ShapeLemmas
