pub mod FlushLemmas
pub mod HoldLemmas
pub mod RowsLemmas
