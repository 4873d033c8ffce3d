pub use Rattle.h5w_model.specs.Datasets
pub mod Founds
pub mod Described
pub mod Listed
