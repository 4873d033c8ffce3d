mod PlaceLemmas
mod HoldsLemmas
pub mod StateLemmas
mod WorldLemmas
pub mod AppendLemmas
mod FlushLemmas
mod ShowLemmas
mod CreationLemmas
mod StepLemmas
mod RunLemmas
mod PollLemmas
mod HoldLemmas
pub mod ReaderLemmas
mod NameLemmas
mod WritingLemmas
