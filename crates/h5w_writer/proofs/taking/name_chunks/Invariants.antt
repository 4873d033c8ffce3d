use Rattle.std.proofs.Common.{◌≡◌, take}
use Rattle.h5w_chunks.specs.Grids.{dataset_of}
use Rattle.h5w_index.specs.Held.{view_of}
use Rattle.h5w_index.specs.Naming.{AreNamed}
use Rattle.h5w_writer.specs.Sessions.{IsRoomy}
use Rattle.h5w_writer.proofs.taking.name_chunks.Given as goal

abbrev pub invariant-loop-place : goal.invariant-loop-place
invariant-loop-place l = record {
  chunks : l.taking.chunks.items ≡ take l.place-index l.early;
  named : AreNamed (dataset_of l.grid) l.to (view_of l.initial.index) l.taking.chunks.items l.taking.added.items (view_of l.index);
  places : l.taking.places ≡ l.initial.taking.places;
  roomy : IsRoomy (dataset_of l.grid) (view_of l.initial.index) → IsRoomy (dataset_of l.grid) (view_of l.index);
}
