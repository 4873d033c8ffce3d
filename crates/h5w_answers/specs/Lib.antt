pub use Rattle.h5w_model.specs.Causes
pub use Rattle.h5w_image.specs.View
pub mod Answering
