pub mod SpaceLemmas
pub mod KeyLemmas
mod PartLemmas
pub mod EarlyLemmas
pub mod IndexLemmas
mod CellLemmas
pub mod FlushLemmas
pub mod HeaderLemmas
pub mod FlushLaws
pub mod KnownLaws
pub mod SessionLaws
mod ValueLemmas
pub mod NewChunkLemmas
pub mod ChunkPlaceLemmas
pub mod RowsLaws
mod CopyLemmas
mod AloneLemmas
mod OnceArrays
mod OnceTrees
mod OnceLaws
pub mod EarlyRowsLemmas
