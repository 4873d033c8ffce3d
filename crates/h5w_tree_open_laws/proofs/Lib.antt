mod PointerLemmas
mod PassedLemmas
pub mod OpenedStandLemmas
pub mod KeptLemmas
pub mod OpenedEndLemmas
pub mod NeededEndLemmas
