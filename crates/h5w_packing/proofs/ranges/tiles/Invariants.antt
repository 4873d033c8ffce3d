use Rattle.std.proofs.Common.{map}
use Rattle.std.specs.Prelude.{drop}
use Rattle.h5w_packing.specs.Tiles.{tile_of}
use Rattle.h5w_packing.proofs.TiledLemmas.{IsTiling}
use Rattle.h5w_packing.proofs.ranges.tiles.Given as goal

abbrev pub invariant-loop-range : goal.invariant-loop-range
invariant-loop-range l = IsTiling (map tile_of l.range-items) (map tile_of (drop l.range-index l.range-items)) l.at l.end
