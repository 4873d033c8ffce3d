pub mod OutcomeLemmas
pub mod PieceLemmas
mod AddressLemmas
pub mod GatherLemmas
pub mod TableLemmas
mod StoreLemmas
mod SeekLemmas
mod NodeLemmas
mod IndexLemmas
pub mod UnknownLemmas
mod DescentLemmas
mod AheadLemmas
mod KeyLemmas
mod PathLemmas
mod SpanLemmas
pub mod LookLemmas
