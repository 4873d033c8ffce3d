pub mod Tiles
pub mod Jobs
pub mod Plans
pub mod SoFar
pub mod Whole
pub mod Shown
