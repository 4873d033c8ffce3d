pub use Rattle.h5w_model.specs.Causes
pub use Rattle.h5w_image.specs.View
pub use Rattle.h5w_looks.specs.Still
pub mod Errors
pub mod Pairs
pub mod Copies
pub mod Packed
