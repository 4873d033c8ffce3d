pub mod PutLemmas
pub mod CreateLemmas
pub mod BatchLemmas
pub mod StoreLemmas
pub mod StepLemmas
mod InputLemmas
pub mod ShutLemmas
pub mod AppendLemmas
pub mod OpenLemmas
pub mod TellLemmas
