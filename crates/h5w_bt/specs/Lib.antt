pub use Rattle.h5w_model.specs.Trees
pub use Rattle.h5w_model.specs.Blocks
pub use Rattle.h5w_model.specs.Checked
pub use Rattle.h5w_model.specs.Numbers
pub mod Parts
pub mod Fields
pub mod Lengths
