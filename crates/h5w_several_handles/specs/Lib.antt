pub mod Handles
pub mod Names
pub mod SetCalls
pub mod Sets
