pub mod PartLemmas
mod TurnLemmas
mod ShownLemmas
pub mod EndLemmas
mod FlowLemmas
mod FullLemmas
mod CountedLemmas
mod StandLemmas
