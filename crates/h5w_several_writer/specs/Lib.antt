pub use Rattle.h5w_several_writer_laws.specs.Sessions
pub mod Flows
pub mod Opened
pub mod Parts
pub mod Refusals
pub mod Turns
