pub mod Space
pub mod Groups
pub mod Ranges
