pub use Rattle.h5w_model.specs.Checksum
pub mod Fronts
