pub mod LinkLemmas
pub mod PlaceLemmas
pub mod RootLemmas
mod IndexLemmas
pub mod SetLemmas
mod StandLemmas
pub mod StandLaws
pub mod OneLemmas
mod ExampleLemmas
