mod CarryLemmas
mod CopyLemmas
pub mod InsideLemmas
pub mod RepackLemmas
pub mod CopiesLemmas
