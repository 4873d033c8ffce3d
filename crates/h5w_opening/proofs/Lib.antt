mod NameLemmas
pub mod FrontLemmas
pub mod OpeningLemmas
pub mod WritingLemmas
pub mod FoundParts
