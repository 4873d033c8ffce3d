pub mod Pairs
pub mod Repacks
pub mod Tells
