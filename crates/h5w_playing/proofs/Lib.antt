pub mod LineLemmas
pub mod PlayLemmas
pub mod EndLemmas
mod LookLemmas
pub mod ShowLemmas
pub mod RangeLemmas
pub mod OneLemmas
