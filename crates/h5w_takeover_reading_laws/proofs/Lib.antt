mod AcrossLemmas
mod SeatLemmas
