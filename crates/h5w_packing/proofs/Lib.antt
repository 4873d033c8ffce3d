pub mod TableLemmas
mod JobLemmas
mod LeftLemmas
mod PutLemmas
mod PlaceLemmas
mod CellLemmas
mod TileLemmas
mod EndLemmas
mod PlainLemmas
mod BlockLemmas
pub mod WholeLemmas
mod FrontLemmas
mod FitLemmas
mod SetLemmas
pub mod SoFarLemmas
mod PreparedLemmas
mod TiledLemmas
mod ResultLemmas
pub mod ShownLemmas
