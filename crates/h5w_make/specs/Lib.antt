pub use Rattle.h5w_model.specs.Logs
pub mod Generators
pub mod Commands
pub mod States
pub mod Readings
pub mod Makes
