pub mod EndLemmas
mod NewLemmas
mod PackLemmas
mod PairLemmas
mod TextLemmas
pub mod TellLemmas
