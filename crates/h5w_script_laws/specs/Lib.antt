pub mod Polling
pub mod Premises
pub mod Laws
pub mod Scripts
pub mod OneByOne
pub mod Lookups
pub mod Attempts
pub mod Endings
