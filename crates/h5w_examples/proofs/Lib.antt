pub mod CellLemmas
pub mod BehindLemmas
pub mod HeaderBytes
