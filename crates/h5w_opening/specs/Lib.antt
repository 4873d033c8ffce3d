pub use Rattle.h5w_model.specs.Programs
pub use Rattle.h5w_image.specs.View
pub use Rattle.h5w_headers.specs.Ran
pub use Rattle.h5w_headers.specs.Walks
pub mod Errors
pub mod Openings
pub mod Fronts
pub mod Views
