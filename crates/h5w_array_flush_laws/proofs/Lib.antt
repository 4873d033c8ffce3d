pub mod ArrayFlushLemmas
pub mod ArrayPlaceLemmas
pub mod ArrayLaws
pub mod ArrayRestLemmas
pub mod ArrayBeginLemmas
