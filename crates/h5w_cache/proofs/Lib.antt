mod StoreLemmas
pub mod PlanLemmas
pub mod PlannedLemmas
pub mod MoveLemmas
pub mod LawLemmas
pub mod FinishLemmas
