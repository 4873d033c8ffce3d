pub mod ProgramLemmas
pub mod LoweringLemmas
pub mod LookLemmas
pub mod AnswerLemmas
pub mod LogLemmas
pub mod EventLemmas
pub mod StaysLemmas
pub mod HeldLemmas
pub mod ResultLemmas
pub mod ReachLemmas
pub mod ValidLemmas
pub mod SlotLemmas
pub mod SpliceLemmas
mod SpliceReads
pub mod PrefixLemmas
pub mod DatasetReads
pub mod PlaceLemmas
pub mod ApartLemmas
pub mod EndLemmas
mod RangeLemmas
mod TileLemmas
pub mod NumberLemmas
pub mod FitLemmas
pub mod LinkLemmas
pub mod OneNameLemmas
pub mod SeveralLemmas
pub mod NodeLemmas
pub mod MostLooks
