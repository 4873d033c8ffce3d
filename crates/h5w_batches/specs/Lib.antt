pub use Rattle.h5w_model.specs.Causes
pub use Rattle.h5w_input.specs.Lines
pub use Rattle.h5w_input.specs.Scripts
pub use Rattle.h5w_text.specs.Streams
pub mod Batches
pub mod Inputs
pub mod Reads
