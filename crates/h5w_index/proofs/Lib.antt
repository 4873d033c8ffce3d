mod ArrayBehindLemmas
pub mod ToldLemmas
mod SetLemmas
mod CountLemmas
pub mod RaisedLemmas
pub mod ArrayBoundLemmas
pub mod TreeBoundLemmas
pub mod FlushLemmas
pub mod BeginLemmas
pub mod BegunLemmas
pub mod MarkLemmas
pub mod ReachLemmas
pub mod PartlyLemmas
pub mod BehindLemmas
pub mod NamingLemmas
pub mod PlacingLemmas
pub mod DepthLemmas
pub mod PartLemmas
