pub use Rattle.h5w_live_laws.specs.Polls
pub use Rattle.h5w_live_laws.specs.Laws
pub mod Reading
pub mod Ends
pub mod Seats
