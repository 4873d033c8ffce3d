mod RuleLemmas
mod FrontLemmas
mod MachineLemmas
mod KeptLemmas
mod AppendLemmas
mod FlushLemmas
mod ShowLemmas
mod SeatLemmas
mod EndedLemmas
mod LineLemmas
mod ReaderLemmas
mod CreationLemmas
mod TakeLemmas
mod OneLemmas
mod StepLemmas
pub mod RunLemmas
