-- A read over looks at one image that may end before some of its chunks do.
use Rattle.std.specs.Prelude.{◌≡◌, ℕ, ◌+◌, ◌-◌, ◌*◌, ◌/◌, ◌%◌, ◌^◌, ◌<◌, ◌≤◌, ◌⊎◌, List, ◌∷◌, ◌++◌, length, if◌then◌else◌, nat_lt, slice_get, ℤ, Result, Ok, Err}
use Rattle.std.specs.List.{AllByRecursion}
use Rattle.h5w_model.specs.Numbers.{range, undefined}
use Rattle.h5w_model.specs.Programs.{Look, IsLookAt, Takes}
use Rattle.h5w_model.specs.Tables.{Reading, Shows, cell, chunk_address, format_limits}
use Rattle.h5w_model.specs.Calls.{touched_from, touched_keys, touched_to, values_call}
use Rattle.h5w_model.specs.declared.refusal.ReadError.{ReadError}
use Rattle.h5w_model.specs.declared.refusal.ReadError.TheVariants.{Damaged}
use Rattle.h5w_model.specs.declared.refusal.BlockFault.TheVariants.{Cut}

-- the address of the chunk at these numbers
abbrev pub address_at : Reading → ℕ × ℕ → ℕ
address_at r k = chunk_address r (k.0 * r.dataset.layout.chunk_rows) (k.1 * r.dataset.layout.chunk_cols)

-- where in the image the touched cells of a chunk begin, and how many bytes there are to the end of the last one
abbrev pub touched_place : Reading → ℕ → ℕ × ℕ → ℕ
touched_place r from k = address_at r k + touched_from r.dataset k.0 k.1 from

abbrev pub touched_len : Reading → ℕ → ℕ → ℕ × ℕ → ℕ
touched_len r from to k = touched_to r.dataset k.0 k.1 to - touched_from r.dataset k.0 k.1 from

-- the touched range of a chunk is inside the image; a chunk without an address has none
abbrev pub IsInside : List ℕ → Reading → ℕ → ℕ → ℕ × ℕ → Type 0
IsInside img r from to k = (address_at r k ≡ undefined) ⊎ (touched_place r from k + touched_len r from to k ≤ length img)

-- The refusal of a range that the image cuts: at its first byte, with the bytes that it needs and those that are there.
-- A range that passes 2^64 is told at its chunk's address, with none.
abbrev pub cut_range : List ℕ → Reading → ℕ → ℕ → ℕ × ℕ → ReadError
cut_range img r from to k =
    if nat_lt (2 ^ 64) (touched_place r from k + touched_len r from to k) then Damaged (address_at r k) (Cut (touched_len r from to k) 0)
    else Damaged (touched_place r from k) (Cut (touched_len r from to k) (length (range img (touched_place r from k) (touched_len r from to k))))

-- the values of so many rows from `first` on, row by row, each that of its cell
pub record AreCells (img : List ℕ) (r : Reading) (first rows : ℕ) (values : List ℤ) : Type 0 where
  pub count : length values ≡ rows * r.dataset.shape.cols
  pub each : (k : ℕ) → k < length values → cell img r (first + k / r.dataset.shape.cols) (k % r.dataset.shape.cols) ≡ slice_get values k

-- An image shows a dataset, and all looks of a read of `count` rows from `first` on are looks at this image. If each touched
-- range is inside the image, the read answers the values of the cells. If one is not, it answers the refusal of the first
-- such range, in the order of the chunks.
pub record PartlyReads : Type 0 where
  pub whole : (img name : List ℕ) (r : Reading) (first count : ℕ) (ls : List Look) (a : Result (List ℤ) ReadError) → length img ≤ 2 ^ 64 → Shows format_limits img name r
      → 1 ≤ count → first + count ≤ r.dataset.shape.rows → AllByRecursion (IsLookAt img) ls → Takes (values_call r first count) ls a
      → AllByRecursion {X = ℕ × ℕ} (IsInside img r first (first + count)) (touched_keys r first (first + count)) → (values : List ℤ) × (a ≡ Ok values) × AreCells img r first count values
  pub cut : (img name : List ℕ) (r : Reading) (first count : ℕ) (ls : List Look) (a : Result (List ℤ) ReadError) → length img ≤ 2 ^ 64 → Shows format_limits img name r
      → 1 ≤ count → first + count ≤ r.dataset.shape.rows → AllByRecursion (IsLookAt img) ls → Takes (values_call r first count) ls a
      → (before after : List (ℕ × ℕ)) (k : ℕ × ℕ) → touched_keys r first (first + count) ≡ before ++ k ∷ after
      → AllByRecursion {X = ℕ × ℕ} (IsInside img r first (first + count)) before → (IsInside img r first (first + count) k → ⊥) → a ≡ Err (cut_range img r first (first + count) k)
