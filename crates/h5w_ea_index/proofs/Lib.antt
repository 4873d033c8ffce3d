mod CleanLemmas
mod ByteLemmas
pub mod PartLemmas
mod StoreLemmas
mod ArrayLemmas
mod OrderLemmas
pub mod StepLemmas
mod SetLemmas
mod FreshLemmas
mod TouchLemmas
mod CountLemmas
pub mod WayLemmas
mod CreateLemmas
mod UnsetLemmas
mod LoadingLemmas
pub mod DecodedLemmas
mod OpenedLemmas
mod NamedLemmas
pub mod StandingLemmas
mod RangeLemmas
