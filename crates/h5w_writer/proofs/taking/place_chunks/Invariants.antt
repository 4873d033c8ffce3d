use Rattle.std.proofs.Common.{◌≡◌, ◌^◌, ◌<◌, ◌≤◌, List, length}
use Rattle.h5w_model.specs.Logs.{div_up}
use Rattle.h5w_model.specs.declared.cell.Key.{Key}
use Rattle.h5w_chunks.specs.Grids.{dataset_of}
use Rattle.h5w_chunks.specs.Shares.{first_line, touched}
use Rattle.h5w_chunks.specs.declared.grid.ChunkPlace.{ChunkPlace}
use Rattle.h5w_space.specs.Space.{Space}
use Rattle.h5w_index.specs.Held.{view_of}
use Rattle.h5w_index.specs.Naming.{AreNamed, AreTakenBehind}
use Rattle.h5w_index.specs.Placing.{AreInside, Fits}
use Rattle.h5w_index.specs.Views.{IndexView, IsSound, TakesKey, address_in}
use Rattle.h5w_writer.specs.Sessions.{IsRoomy}
use Rattle.h5w_writer.proofs.taking.place_chunks.Given as goal

abbrev pub invariant-loop-k : goal.invariant-loop-k
invariant-loop-k l = record {
  sound : IsSound (view_of l.index);
  takes : (key : Key) → key.i < first_line (dataset_of l.grid) (div_up l.to l.grid.layout.chunk.0) → TakesKey (view_of l.index) key;
  small : l.taking.places.end < 2 ^ 64;
  limit : l.taking.places.limit ≤ 2 ^ 40;
  count : length l.taking.chunks.items ≡ l.k;
  known : l.k ≤ touched (dataset_of l.grid) l.grid.shape.rows l.to;
  named : (v : IndexView) → Fits (dataset_of l.grid) v → AreNamed (dataset_of l.grid) l.to v l.initial.taking.chunks.items l.initial.taking.added.items (view_of l.initial.index)
      → AreNamed (dataset_of l.grid) l.to v l.taking.chunks.items l.taking.added.items (view_of l.index);
  taken : (v : IndexView) (early : List ChunkPlace) (s : Space) → Fits (dataset_of l.grid) v → AreInside (dataset_of l.grid) s.end v
      → AreNamed (dataset_of l.grid) l.to v l.initial.taking.chunks.items l.initial.taking.added.items (view_of l.initial.index)
      → AreTakenBehind (dataset_of l.grid) (address_in v) early s l.initial.taking.chunks.items l.initial.taking.places → AreTakenBehind (dataset_of l.grid) (address_in v) early s l.taking.chunks.items l.taking.places;
  roomy : IsRoomy (dataset_of l.grid) (view_of l.initial.index) → IsRoomy (dataset_of l.grid) (view_of l.index);
}
