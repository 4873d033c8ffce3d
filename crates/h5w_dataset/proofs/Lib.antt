mod ChunkLemmas
pub mod DescribedLemmas
mod FillLemmas
pub mod ListedLemmas
mod LinkLemmas
