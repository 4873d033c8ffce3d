pub mod Geometry
pub mod KeyLemmas
pub mod BlockLemmas
mod Loops
pub mod RowLaws
pub mod WriteLaws
pub mod EarlyLemmas
mod Examples
