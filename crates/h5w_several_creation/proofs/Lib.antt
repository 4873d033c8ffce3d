mod HeaderLemmas
pub mod SetLemmas
