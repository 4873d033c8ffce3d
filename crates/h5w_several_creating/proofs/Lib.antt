mod PartLemmas
pub mod StandLemmas
mod EmptyLemmas
mod SessionLemmas
mod CreateLemmas
