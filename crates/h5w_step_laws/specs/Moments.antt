-- A file at a moment: what the check of it finds, step by step, and the values that it reads as. It speaks by readings of one
-- image, not by spelled bytes, so it is there for every valid file, whoever made it.
use Rattle.std.specs.Prelude.{◌≡◌, ◌≢◌, ℕ, ◌+◌, ◌*◌, ◌/◌, ◌%◌, ◌<◌, List, ◌∷◌, ◌++◌, length, slice_get, Ok, ℤ}
use Rattle.h5w_model.specs.Numbers.{range, undefined}
use Rattle.h5w_model.specs.Images.{Misses}
use Rattle.h5w_model.specs.Programs.{eval}
use Rattle.h5w_model.specs.Datasets.{Described}
use Rattle.h5w_model.specs.Tables.{Reading, chunk_address, cell_offset, cell, table_of, needed_keys, format_limits}
use Rattle.h5w_model.specs.Findings.{Used, the_superblock, checked_super, checked_root, checked_dataset}
use Rattle.h5w_model.specs.declared.root.Super.{Super}
use Rattle.h5w_model.specs.declared.piece.Write.{Write}
use Rattle.h5w_step_laws.specs.Ranges.{AllEndBy, Disjoint}
use Rattle.h5w_step_laws.specs.Indexes.{IsIndex}

-- A file: its superblock, the dataset header's place and what it says, the ranges of the root header, of the dataset
-- header, of the index's blocks in place and of what stands behind them, the needed chunks' addresses, and the values of
-- its rows, one row after another.
pub record Moment : Type 0 where
  pub super : Super
  pub place : ℕ
  pub dataset : Described
  pub root : List Used
  pub header : List Used
  pub fixed : List Used
  pub behind : List Used
  pub table : List ℕ
  pub values : List ℤ

abbrev pub reading_of : Moment → Reading
reading_of m = record { place = m.place; dataset = m.dataset; table = m.table }

-- the ranges that stay where they stand
abbrev pub front_of : Moment → List Used
front_of m = the_superblock ∷ (m.root ++ (m.header ++ m.fixed))

-- those of them that are written again where they stand: the superblock, the header and the index's blocks in place
abbrev pub moved_of : Moment → List Used
moved_of m = the_superblock ∷ (m.header ++ m.fixed)

abbrev pub all_used : Moment → List Used
all_used m = the_superblock ∷ (m.root ++ (m.header ++ (m.fixed ++ m.behind)))

-- row and column of the k-th value
abbrev pub row_of : Moment → ℕ → ℕ
row_of m k = k / m.dataset.shape.cols

abbrev pub column_of : Moment → ℕ → ℕ
column_of m k = k % m.dataset.shape.cols

-- the address of its chunk, and where its cell stands where that is defined
abbrev pub chunk_of : Moment → ℕ → ℕ
chunk_of m k = chunk_address (reading_of m) (row_of m k) (column_of m k)

abbrev pub cell_place : Moment → ℕ → ℕ
cell_place m k = chunk_of m k + cell_offset m.dataset (row_of m k) (column_of m k)

-- the values stand in the image
abbrev pub HasCells : List ℕ → Moment → Type 0
HasCells img m = (k : ℕ) → k < length m.values → cell img (reading_of m) (row_of m k) (column_of m k) ≡ slice_get m.values k

-- The root header has the first of these ranges; behind them stand those of other datasets, which this one has nothing to do with.
pub record HasRoot (img name : List ℕ) (s : Super) (place : ℕ) (us : List Used) : Type 0 where
  pub own : List Used
  pub others : List Used
  pub is : us ≡ own ++ others
  pub checked : eval img (checked_root name s) ≡ Ok (place, own)
  pub ends : AllEndBy s.end others

-- the image is this file
pub record Represents (img name : List ℕ) (m : Moment) : Type 0 where
  pub super : checked_super (length img) (range img 0 48) ≡ Ok m.super
  pub root : HasRoot img name m.super m.place m.root
  pub header : eval img (checked_dataset format_limits m.super m.place) ≡ Ok (m.dataset, m.header)
  pub index : IsIndex img m.super.end m.dataset m.fixed m.behind
  pub apart : Disjoint (all_used m)
  pub table : eval img (table_of m.dataset (needed_keys m.dataset)) ≡ Ok m.table
  pub count : length m.values ≡ m.dataset.shape.rows * m.dataset.shape.cols
  pub cells : HasCells img m

-- a write meets no cell of the file's rows
abbrev pub MissesCells : Write → Moment → Type 0
MissesCells w m = (k : ℕ) → k < length m.values → chunk_of m k ≢ undefined → Misses w (cell_place m k) m.dataset.int_type.size
