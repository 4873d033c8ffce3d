-- A range of the code as a tile.
use Rattle.h5w_model.specs.Tiles.{TileFields}
use Rattle.h5w_packing.specs.declared.ranges.Range.{Range}

abbrev pub tile_of : Range → TileFields
tile_of r = record { place = r.at; len = r.len; kind = r.kind }
