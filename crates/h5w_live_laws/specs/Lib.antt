pub use Rattle.h5w_model.specs.Agrees
pub mod Lines
pub mod Polls
pub mod Laws
