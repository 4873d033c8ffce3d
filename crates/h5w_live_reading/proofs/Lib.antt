pub mod CallLemmas
mod ReadingLemmas
pub mod PartLemmas
pub mod ActorLemmas
pub mod Sent
