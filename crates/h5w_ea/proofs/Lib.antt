mod Fixed
pub mod PlaceLemmas
mod Spelling
mod SizeLemmas
