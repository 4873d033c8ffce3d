mod WordLemmas
pub mod LineLemmas
mod NumberLemmas
pub mod ScriptLemmas
