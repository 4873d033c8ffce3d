pub use Rattle.h5w_image.specs.View
pub mod Steady
