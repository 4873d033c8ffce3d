mod SpanLemmas
mod FindLemmas
mod CallLemmas
pub mod HeldLemmas
mod RefusedLemmas
mod NodeLemmas
mod StepLemmas
mod TreeLemmas
pub mod VisitLemmas
mod WalkLemmas
mod NeededLemmas
mod KeptLemmas
