pub mod EndLemmas
pub mod ClearLemmas
pub mod CheckLemmas
pub mod ImageLemmas
pub mod SinkLemmas
mod PollLemmas
mod OnceLemmas
mod TimesLemmas
pub mod PollEndLemmas
