mod CountLemmas
mod SetLemmas
mod PutLemmas
mod PartLemmas
mod LogLemmas
mod StoreLemmas
mod StepLemmas
mod InputLemmas
mod ShutLemmas
mod OpenLemmas
mod TellLemmas
mod EndLemmas
pub mod OuterLemmas
