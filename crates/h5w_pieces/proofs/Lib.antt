mod RowPieces
pub mod NextPlaces
pub mod AllIn
pub mod EarlyRows
pub mod PieceBounds
mod JoinedLemmas
