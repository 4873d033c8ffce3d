pub mod Files
pub mod OneRowFiles
pub mod Readings
