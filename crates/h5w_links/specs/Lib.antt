pub use Rattle.h5w_model.specs.Numbers
pub use Rattle.h5w_model.specs.Headers
pub use Rattle.h5w_model.specs.Links
pub mod Views
