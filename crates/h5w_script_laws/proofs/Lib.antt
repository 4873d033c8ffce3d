mod ListLemmas
pub mod PutLemmas
mod AnswerLemmas
pub mod EventLemmas
mod ReadLemmas
mod CallLemmas
mod BoundLemmas
pub mod LookLemmas
pub mod ScriptLemmas
pub mod OneByOneLemmas
mod LookupLemmas
mod AttemptLooks
mod WithinLemmas
mod EndingLemmas
