use Rattle.std.proofs.Common.{◌≡◌, ◌≤◌, ◌++◌, drop, length, vec_len, vec_capacity}
use Rattle.h5w_chunks.specs.Grids.{dataset_of}
use Rattle.h5w_pieces.specs.NextPlaces.{next_from}
use Rattle.h5w_pieces.proofs.rows.next_places.Given as goal

abbrev pub invariant-loop-k : goal.invariant-loop-k
invariant-loop-k l =
    (l.places.items ++ next_from (dataset_of l.grid) l.mid l.k (drop l.k l.place-items) ≡ next_from (dataset_of l.grid) l.mid 0 l.place-items)
    × (vec_len l.places ≡ l.k)
    × (length l.place-items ≤ vec_capacity l.places)
