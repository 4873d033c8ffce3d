mod TurnLemmas
mod LookLemmas
pub mod MomentLemmas
mod RiseLemmas
pub mod BlockLemmas
pub mod KnownLemmas
pub mod KeyLemmas
mod SpanLemmas
pub mod AttemptLemmas
pub mod ChunkLemmas
pub mod CellLemmas
mod RangeLemmas
mod PieceLemmas
pub mod ValueLemmas
pub mod CountLemmas
pub mod DescentLemmas
pub mod CallLemmas
pub mod EndLemmas
pub mod PremiseLemmas
pub mod BoundLemmas
pub mod ReadLooks
pub mod StillLemmas
pub mod StillReads
mod PartReads
pub mod ShowingLemmas
