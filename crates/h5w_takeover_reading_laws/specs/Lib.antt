pub mod Across
pub mod Seats
