pub mod LineLemmas
mod SightLemmas
pub mod PollLemmas
