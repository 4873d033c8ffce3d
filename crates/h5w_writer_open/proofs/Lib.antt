pub mod OpenRangeLemmas
mod SaidLemmas
pub mod OpenLineLemmas
pub mod SessionOver
mod UndamagedLemmas
mod UndamagedTreeLemmas
pub mod OverFile
mod FrontLemmas
pub mod LeftLemmas
pub mod OpenStepLemmas
pub mod OpenAnswerLemmas
pub mod PartLemmas
