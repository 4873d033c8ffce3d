use Rattle.std.proofs.Common.{◌≡◌, ◌++◌}
use Rattle.std.specs.Prelude.{drop, map}
use Rattle.h5w_packing.specs.Tiles.{tile_of}
use Rattle.h5w_repacking.specs.Repacks.{ranges_text}
use Rattle.h5w_repacking.proofs.repacking.write_ranges.Given as goal

abbrev pub invariant-loop-range : goal.invariant-loop-range
invariant-loop-range l = l.out.items ++ ranges_text (map tile_of (drop l.range-index l.range-items)) ≡ l.initial.out.items ++ ranges_text l.ranges
