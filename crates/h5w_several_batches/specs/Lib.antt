pub use Rattle.h5w_input.specs.Lines
pub use Rattle.h5w_input.specs.Scripts
pub use Rattle.h5w_text.specs.Streams
pub use Rattle.h5w_batches.specs.Batches
pub use Rattle.h5w_batches.specs.Inputs
pub mod SetLines
pub mod SetInputs
