pub mod ViewLemmas
pub mod DiskLemmas
pub mod Names
pub mod Overwrite
pub mod JournalLemmas
mod Files
mod MemoryDiskLemmas
