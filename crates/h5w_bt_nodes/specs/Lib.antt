pub use Rattle.h5w_model.specs.Trees
pub mod Nodes
pub mod Puts
pub mod Shapes
pub mod Typed
pub mod Blocks
