pub mod Edges
pub mod Walk
