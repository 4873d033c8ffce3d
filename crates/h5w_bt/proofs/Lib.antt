pub mod Tables
mod Reading
mod Refusals
pub mod Writing
pub mod Spelling
pub mod KeyLemmas
