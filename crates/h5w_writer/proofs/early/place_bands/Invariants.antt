use Rattle.std.proofs.Common.{◌≡◌, ◌-◌, ◌*◌, ◌/◌, length}
use Rattle.h5w_model.specs.Tables.{chunks_across}
use Rattle.h5w_chunks.specs.Grids.{dataset_of}
use Rattle.h5w_index.specs.Held.{view_of}
use Rattle.h5w_index.specs.Naming.{AreTakenBehind}
use Rattle.h5w_index.specs.Views.{address_in}
use Rattle.h5w_writer.specs.ChunkPlaces.{AllEarly, IsGrown}
use Rattle.h5w_writer.proofs.early.place_bands.Given as goal

abbrev pub invariant-loop-band : goal.invariant-loop-band
invariant-loop-band l = record {
  taken : AreTakenBehind (dataset_of l.grid) (address_in (view_of l.index)) l.initial.chunks.items l.initial.places l.chunks.items l.places;
  placed : AllEarly (dataset_of l.grid) (address_in (view_of l.index)) l.initial.chunks.items → AllEarly (dataset_of l.grid) (address_in (view_of l.index)) l.chunks.items;
  count : length l.chunks.items ≡ (l.band - l.grid.shape.rows / l.grid.layout.chunk.0) * chunks_across (dataset_of l.grid);
  grown : IsGrown l.initial.places l.places;
  same : l.band ≡ l.first → (l.chunks.items ≡ l.initial.chunks.items) × (l.places ≡ l.initial.places);
}
