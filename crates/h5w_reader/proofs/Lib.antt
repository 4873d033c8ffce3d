mod AbsorbLemmas
mod WalkLemmas
mod ViewLemmas
mod OpenLemmas
mod UnstoredLemmas
mod IdleLemmas
mod HeaderLemmas
mod CallLemmas
mod StageLemmas
mod CellLemmas
mod BandLemmas
mod ValueLemmas
mod ReadLemmas
mod GridLemmas
mod SideLemmas
pub mod AskedLemmas
mod CoreLemmas
