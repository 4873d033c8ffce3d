use Rattle.std.proofs.Common.{◌≡◌, ◌+◌, length}
use Rattle.h5w_chunks.specs.Grids.{dataset_of}
use Rattle.h5w_index.specs.Held.{view_of}
use Rattle.h5w_index.specs.Naming.{AreTakenBehind}
use Rattle.h5w_index.specs.Views.{address_in}
use Rattle.h5w_writer.specs.ChunkPlaces.{AllEarly, IsGrown}
use Rattle.h5w_writer.proofs.early.place_band.Given as goal

abbrev pub invariant-loop : goal.invariant-loop
invariant-loop l = record {
  taken : AreTakenBehind (dataset_of l.grid) (address_in (view_of l.index)) l.initial.chunks.items l.initial.places l.chunks.items l.places;
  placed : AllEarly (dataset_of l.grid) (address_in (view_of l.index)) l.initial.chunks.items → AllEarly (dataset_of l.grid) (address_in (view_of l.index)) l.chunks.items;
  count : length l.chunks.items ≡ length l.initial.chunks.items + l.counter;
  grown : IsGrown l.initial.places l.places;
}
