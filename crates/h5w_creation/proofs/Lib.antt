pub mod FormLemmas
pub mod HeaderLemmas
pub mod MadeLemmas
pub mod OptionLemmas
