pub use Rattle.h5w_text.specs.Streams
pub mod Edges
