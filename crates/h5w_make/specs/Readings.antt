-- An image whose values can be read, and its reader.
use Rattle.std.specs.Prelude.{◌≡◌, ℕ, ◌^◌, ◌≤◌, List, length, None, Some, ℤ}
use Rattle.h5w_model.specs.Tables.{Reads}
use Rattle.h5w_model.specs.Unfinished.{Reader}
use Rattle.h5w_make.specs.Commands.{data_name}

-- The image reads as these values, one in each row, and no look passes 2^64.
pub record IsReadable (img : List ℕ) (values : List ℤ) : Type 0 where
  pub reads : Reads img data_name (length values) 1 values
  pub fits : length img ≤ 2 ^ 64

-- a reader of an image that reads as these values: it knows what the image shows, and has no call
pub record IsReaderOf (img : List ℕ) (values : List ℤ) (r : Reader) : Type 0 where
  pub readable : IsReadable img values
  pub known : r.known ≡ Some readable.reads.shown
  pub idle : r.left ≡ None
