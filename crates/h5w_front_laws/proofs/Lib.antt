mod FrontLemmas
mod PartFrontLemmas
mod OneFrontLemmas
mod EarlyFrontLemmas
mod AllFrontLemmas
pub mod CallFrontLemmas
pub mod NewFrontLemmas
