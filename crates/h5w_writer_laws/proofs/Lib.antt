mod ServedLemmas
pub mod PieceLemmas
pub mod LeavingLemmas
