pub use Rattle.h5w_model.specs.Lawful
pub use Rattle.h5w_text.specs.Streams
pub use Rattle.h5w_core.specs.Worlds
pub use Rattle.h5w_stop.specs.Outcomes
pub mod Writing
pub mod Stops
