mod BeginningLemmas
mod HoldingLemmas
pub mod ShownLemmas
pub mod StepLemmas
pub mod AppendLemmas
pub mod FlushLemmas
pub mod ReaderLemmas
pub mod RefusalLemmas
pub mod FullLemmas
pub mod TakenLemmas
