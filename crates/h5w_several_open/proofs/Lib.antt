pub mod DatasetLemmas
mod OpenLemmas
pub mod BeginLemmas
pub mod StandLemmas
mod SessionLemmas
mod BegunLemmas
pub mod TakeAnswers
pub mod TakenLemmas
pub mod AloneLemmas
pub mod BeginningLemmas
