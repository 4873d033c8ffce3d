-- An image in memory that does not fail.
use Rattle.h5w_image.specs.Memory.{MemView, in_memory}
use Rattle.h5w_image.specs.View.{ImageView}

-- as the traits see it
abbrev pub steady : MemView → ImageView
steady v = record (in_memory v) { faults = 0 }
