-- One file of a disk as an image, and what commands leave of a disk.
use Rattle.std.specs.Prelude.{◌≡◌, ℕ, ◌≤◌, true, List, ◌∷◌, ◌++◌, length, Option, None, option_and_then}
use Rattle.h5w_image.specs.View.{DiskState, DiskView, ImageView, file}

-- the bytes of the file of this name, where the disk tells its files, and it is there
abbrev pub told_bytes : Option DiskState → List ℕ → Option (List ℕ)
told_bytes told name = option_and_then (λ d. file d name) told

-- the file of this name as an image, through a reference to its disk and by its name
abbrev pub file_image : ℕ → List ℕ → DiskView → ImageView
file_image reference name v = record {
  bytes = told_bytes v.told name;
  history = None;
  disk = v.told;
  alone = true;
  faults = v.faults;
  through = reference ∷ length name ∷ name ++ v.through;
  pieces = v.pieces;
  end = v.end name;
}

-- the disk tells this then; its count of faults has not fallen, and it works through the same references
pub record LeavesFiles (after : Option DiskState) (v w : DiskView) : Type 0 where
  pub told : w.told ≡ after
  pub faults : v.faults ≤ w.faults
  pub through : w.through ≡ v.through
