pub mod Refused
pub mod Restarts
pub mod Several
pub mod One
pub mod Created
