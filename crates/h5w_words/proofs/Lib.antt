mod WordLemmas
mod FillLemmas
pub mod NameLemmas
