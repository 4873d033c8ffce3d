pub mod SeenLemmas
pub mod SightLemmas
pub mod ValidLemmas
mod PassedLemmas
pub mod RunLemmas
mod AddressedLemmas
pub mod PastLemmas
pub mod TurnPartLemmas
pub mod FoldPartLemmas
mod ValidFlushLemmas
pub mod CourseLemmas
pub mod FlushAllLemmas
mod RunTellLemmas
pub mod GiveLemmas
pub mod ShownLemmas
mod ShownAllLemmas
mod AppendAllLemmas
mod EndLemmas
pub mod TogetherLemmas
pub mod CallLemmas
pub mod BoundLemmas
