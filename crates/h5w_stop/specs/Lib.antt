pub use Rattle.h5w_model.specs.Programs
pub use Rattle.h5w_model.specs.Tables
pub mod Images
pub mod Outcomes
pub mod Sweeps
