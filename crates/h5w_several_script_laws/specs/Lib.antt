pub use Rattle.h5w_model.specs.Lawful
pub mod Scripts
pub mod Alone
pub mod Rows
pub mod Polled
