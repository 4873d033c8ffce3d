pub mod Rising
pub mod Joined
mod Parts
pub mod Grown
pub mod Bounds
pub mod Shares
mod Marks
pub mod Laws
pub mod Placed
mod Headers
mod Started
pub mod Replaced
