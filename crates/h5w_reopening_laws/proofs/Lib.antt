pub mod UnrefusedLemmas
pub mod SinceLemmas
pub mod StopLemmas
