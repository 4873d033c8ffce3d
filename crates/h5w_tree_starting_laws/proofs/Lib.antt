pub mod UnwrittenLemmas
pub mod TreeStartLemmas
pub mod TreeLeadLemmas
pub mod TreeStartCallLemmas
