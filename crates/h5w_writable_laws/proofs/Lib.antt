mod HeadLemmas
mod KeptWalks
mod KeptHeaders
pub mod KeptFiles
pub mod FindsLemmas
pub mod CreatedLemmas
mod KnownWalks
pub mod SeveralLemmas
