pub mod AloneLemmas
mod RowLemmas
pub mod SetLemmas
pub mod PolledLemmas
