pub mod RefusedLemmas
mod RestartLemmas
mod AnewLemmas
mod AllRefusedLemmas
mod CarryOneLemmas
mod CarryLemmas
pub mod CarryAllLemmas
pub mod AlikeLemmas
pub mod OneLemmas
pub mod CreatedLemmas
