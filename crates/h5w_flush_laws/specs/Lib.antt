pub mod Spaces
pub mod Knowledge
pub mod Parts
pub mod Rows
pub mod Flushes
pub mod Copies
pub mod EarlyRows
pub mod Chunks
