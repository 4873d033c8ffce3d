pub mod SizeLemmas
pub mod StackLemmas
pub mod RootLemmas
pub mod IndexLemmas
pub mod CreatedLaws
mod LogLaws
pub mod BornLemmas
mod ExampleLemmas
