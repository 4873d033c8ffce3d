pub use Rattle.h5w_model.specs.Numbers
pub use Rattle.h5w_chunks.specs.Grids
pub use Rattle.h5w_chunks.specs.Rows
pub use Rattle.h5w_chunks.specs.Early
pub mod RowPieces
pub mod NextPlaces
pub mod Joined
