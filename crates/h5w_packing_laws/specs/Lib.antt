pub mod Growing
pub mod Standing
pub mod Packing
pub mod PackingLaws
pub mod Sources
