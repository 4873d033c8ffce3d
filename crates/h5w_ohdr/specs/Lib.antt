pub use Rattle.h5w_model.specs.Numbers
pub use Rattle.h5w_model.specs.Checksum
pub use Rattle.h5w_model.specs.Headers
pub mod Walk
