mod ShowingLemmas
mod WritingLemmas
mod TakingLemmas
pub mod ReportLemmas
pub mod TellLemmas
