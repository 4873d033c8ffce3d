mod RunLemmas
mod CountLemmas
pub mod FoundLemmas
pub mod LineLemmas
mod OutcomeLemmas
mod PieceLemmas
