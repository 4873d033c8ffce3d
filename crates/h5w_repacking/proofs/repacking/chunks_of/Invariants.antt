use Rattle.std.proofs.Common.{◌≡◌, ◌≤◌}
use Rattle.std.specs.Prelude.{count_by, map, take}
use Rattle.h5w_packing.specs.Tiles.{tile_of}
use Rattle.h5w_repacking.specs.Repacks.{is_chunk}
use Rattle.h5w_repacking.proofs.repacking.chunks_of.Given as goal

abbrev pub invariant-loop-range : goal.invariant-loop-range
invariant-loop-range l = record {
  exact : l.chunks ≡ count_by is_chunk (map tile_of (take l.range-index l.ranges));
  bound : l.chunks ≤ l.range-index;
}
