pub mod RowLemmas
pub mod LineLemmas
pub mod InputLemmas
pub mod AnswerLemmas
