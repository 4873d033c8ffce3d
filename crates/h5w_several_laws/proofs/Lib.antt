pub mod BesideLemmas
mod HeldLemmas
pub mod SettledLemmas
pub mod SeenLemmas
pub mod DueLemmas
mod OtherLemmas
pub mod TurnLemmas
pub mod BetweenLemmas
pub mod TogetherLemmas
pub mod FoldLemmas
pub mod RunLemmas
pub mod TakeLemmas
