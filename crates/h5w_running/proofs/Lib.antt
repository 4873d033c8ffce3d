mod TextLemmas
mod RunLemmas
pub mod EndLemmas
