pub mod Beginnings
mod TurnLemmas
mod CallLemmas
pub mod SeatLemmas
pub mod Sent
pub mod ThreadLemmas
