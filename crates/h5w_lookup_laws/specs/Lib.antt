pub mod Relations
pub mod Files
pub mod Readings
