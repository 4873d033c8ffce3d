pub use Rattle.h5w_replica.specs.Batches
pub use Rattle.h5w_replica.specs.Feeds
pub use Rattle.h5w_shared.specs.Seats
pub use Rattle.h5w_shared.specs.Turns
pub mod Pens
