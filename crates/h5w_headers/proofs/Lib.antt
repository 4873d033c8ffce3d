pub mod RanLemmas
mod KnownLemmas
mod WalkLemmas
mod RootLemmas
mod HeaderLemmas
mod ViewLemmas
pub mod ReadingLemmas
pub mod KindLemmas
