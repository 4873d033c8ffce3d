pub use Rattle.h5w_model.specs.Numbers
pub use Rattle.h5w_model.specs.Messages
pub use Rattle.h5w_model.specs.Integers
pub mod Fields
pub mod Runs
