mod Laid
mod Edits
pub mod Sound
