mod GeneratorLemmas
mod TakenLemmas
mod EventLemmas
mod BatchLemmas
mod ReadingLemmas
mod MadeLemmas
