-- Two files of one disk, as a source and a new file.
use Rattle.std.specs.Prelude.{ℕ, List, None}
use Rattle.h5w_image.specs.View.{DiskView}
use Rattle.h5w_files.specs.Images.{file_image}
use Rattle.h5w_repack.specs.Pairs.{PairView}

-- the source is looked at alone: it tells nothing of its disk, which the writes of the new file change, and has no room of its own
abbrev pub pair_of : ℕ → List ℕ → List ℕ → DiskView → PairView
pair_of reference from to v = record {
  from = record (file_image reference from v) { disk = None; pieces = 0; end = 0 };
  to = file_image reference to v;
  name = to;
}
