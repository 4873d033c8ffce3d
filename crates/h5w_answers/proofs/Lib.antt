mod AnsweringLemmas
mod EndLemmas
pub mod OpenLemmas
