pub mod Records
pub mod Places
pub mod Steps
mod Edits
pub mod Parts
pub mod Children
pub mod Bounds
pub mod Shapes
pub mod Over
pub mod Searched
mod Down
pub mod Placed
mod Turns
pub mod NodeBytes
mod Written
