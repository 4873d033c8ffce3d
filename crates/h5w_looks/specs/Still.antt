-- What is known of an image that tells its bytes.
use Rattle.std.specs.Prelude.{◌≡◌, ℕ, ◌^◌, ◌<◌, List, length, Some, IsTrue}
use Rattle.h5w_image.specs.View.{ImageView}

-- its bytes are these, and nobody else writes it
pub record IsStill (v : ImageView) (img : List ℕ) : Type 0 where
  pub told : v.bytes ≡ Some img
  pub alone : IsTrue v.alone
  pub short : length img < 2 ^ 64
