-- Three created files beside the bytes that independent programs made of them: of one dimension, of two that grow with a fill, and of
-- two with fixed columns.
use Rattle.std.specs.Prelude.{◌≡◌, ℕ, true, false, List, [], ◌∷◌, Some, None, pos, codes}
use Rattle.h5w_model.specs.declared.cell.IndexKind.TheVariants.{Array, Tree}
use Rattle.h5w_examples.specs.Files.{created_file}
use Rattle.h5w_examples.specs.Readings.{data_name, piece_of, described_as}
use Rattle.h5w_creation_laws.specs.CreatedFiles.{CreatedFile, IsCreatable, fill_given, end_of, described_of, header_block, created_writes}

-- 32-bit integers in chunks of two rows
abbrev pub twos : CreatedFile
twos = record {
  name = data_name;
  int_type = record { size = 4; big = false; signed = true };
  fill = fill_given None (record { size = 4; big = false; signed = true });
  chunk_rows = 2;
  chunk_cols = 1;
  rank = 1;
  columns = 1;
  growing = false;
  index = Array;
}

-- 16-bit integers whose most significant byte comes first, filled with 258, in three columns and chunks of two rows and two columns
abbrev pub grid : CreatedFile
grid = record {
  name = codes "grid";
  int_type = record { size = 2; big = true; signed = true };
  fill = fill_given (Some (pos 258)) (record { size = 2; big = true; signed = true });
  chunk_rows = 2;
  chunk_cols = 2;
  rank = 2;
  columns = 3;
  growing = true;
  index = Tree;
}

abbrev pub grid_file : List ℕ
grid_file =
    137 ∷ 72 ∷ 68 ∷ 70 ∷ 13 ∷ 10 ∷ 26 ∷ 10 ∷ 3 ∷ 8 ∷ 8 ∷ 5 ∷ 0 ∷ 0 ∷ 0 ∷ 0 ∷
    0 ∷ 0 ∷ 0 ∷ 0 ∷ 255 ∷ 255 ∷ 255 ∷ 255 ∷ 255 ∷ 255 ∷ 255 ∷ 255 ∷ 250 ∷ 0 ∷ 0 ∷ 0 ∷
    0 ∷ 0 ∷ 0 ∷ 0 ∷ 48 ∷ 0 ∷ 0 ∷ 0 ∷ 0 ∷ 0 ∷ 0 ∷ 0 ∷ 7 ∷ 139 ∷ 255 ∷ 197 ∷
    79 ∷ 72 ∷ 68 ∷ 82 ∷ 2 ∷ 0 ∷ 47 ∷ 2 ∷ 18 ∷ 0 ∷ 0 ∷ 0 ∷ 0 ∷ 255 ∷ 255 ∷ 255 ∷
    255 ∷ 255 ∷ 255 ∷ 255 ∷ 255 ∷ 255 ∷ 255 ∷ 255 ∷ 255 ∷ 255 ∷ 255 ∷ 255 ∷ 255 ∷ 10 ∷ 2 ∷ 0 ∷
    0 ∷ 0 ∷ 0 ∷ 6 ∷ 15 ∷ 0 ∷ 0 ∷ 1 ∷ 0 ∷ 4 ∷ 103 ∷ 114 ∷ 105 ∷ 100 ∷ 106 ∷ 0 ∷
    0 ∷ 0 ∷ 0 ∷ 0 ∷ 0 ∷ 0 ∷ 220 ∷ 137 ∷ 75 ∷ 14 ∷ 79 ∷ 72 ∷ 68 ∷ 82 ∷ 2 ∷ 0 ∷
    95 ∷ 1 ∷ 36 ∷ 0 ∷ 0 ∷ 2 ∷ 2 ∷ 1 ∷ 1 ∷ 0 ∷ 0 ∷ 0 ∷ 0 ∷ 0 ∷ 0 ∷ 0 ∷
    0 ∷ 3 ∷ 0 ∷ 0 ∷ 0 ∷ 0 ∷ 0 ∷ 0 ∷ 0 ∷ 255 ∷ 255 ∷ 255 ∷ 255 ∷ 255 ∷ 255 ∷ 255 ∷
    255 ∷ 255 ∷ 255 ∷ 255 ∷ 255 ∷ 255 ∷ 255 ∷ 255 ∷ 255 ∷ 3 ∷ 12 ∷ 0 ∷ 0 ∷ 48 ∷ 9 ∷ 0 ∷
    0 ∷ 2 ∷ 0 ∷ 0 ∷ 0 ∷ 0 ∷ 0 ∷ 16 ∷ 0 ∷ 5 ∷ 8 ∷ 0 ∷ 0 ∷ 3 ∷ 43 ∷ 2 ∷
    0 ∷ 0 ∷ 0 ∷ 1 ∷ 2 ∷ 8 ∷ 23 ∷ 0 ∷ 0 ∷ 4 ∷ 2 ∷ 0 ∷ 3 ∷ 1 ∷ 2 ∷ 2 ∷
    2 ∷ 5 ∷ 0 ∷ 8 ∷ 0 ∷ 0 ∷ 100 ∷ 40 ∷ 212 ∷ 0 ∷ 0 ∷ 0 ∷ 0 ∷ 0 ∷ 0 ∷ 0 ∷
    22 ∷ 171 ∷ 225 ∷ 15 ∷ 66 ∷ 84 ∷ 72 ∷ 68 ∷ 0 ∷ 10 ∷ 0 ∷ 8 ∷ 0 ∷ 0 ∷ 24 ∷ 0 ∷
    0 ∷ 0 ∷ 100 ∷ 40 ∷ 255 ∷ 255 ∷ 255 ∷ 255 ∷ 255 ∷ 255 ∷ 255 ∷ 255 ∷ 0 ∷ 0 ∷ 0 ∷ 0 ∷
    0 ∷ 0 ∷ 0 ∷ 0 ∷ 0 ∷ 0 ∷ 88 ∷ 126 ∷ 196 ∷ 158 ∷ []

-- 32-bit integers in three fixed columns and chunks of two rows and two columns
abbrev pub fixed : CreatedFile
fixed = record {
  name = data_name;
  int_type = record { size = 4; big = false; signed = true };
  fill = fill_given None (record { size = 4; big = false; signed = true });
  chunk_rows = 2;
  chunk_cols = 2;
  rank = 2;
  columns = 3;
  growing = false;
  index = Array;
}

-- its dataset header
abbrev pub fixed_bytes : List ℕ
fixed_bytes =
    79 ∷ 72 ∷ 68 ∷ 82 ∷ 2 ∷ 0 ∷ 88 ∷ 1 ∷ 36 ∷ 0 ∷ 0 ∷ 2 ∷ 2 ∷ 1 ∷ 1 ∷ 0 ∷
    0 ∷ 0 ∷ 0 ∷ 0 ∷ 0 ∷ 0 ∷ 0 ∷ 3 ∷ 0 ∷ 0 ∷ 0 ∷ 0 ∷ 0 ∷ 0 ∷ 0 ∷ 255 ∷
    255 ∷ 255 ∷ 255 ∷ 255 ∷ 255 ∷ 255 ∷ 255 ∷ 3 ∷ 0 ∷ 0 ∷ 0 ∷ 0 ∷ 0 ∷ 0 ∷ 0 ∷ 3 ∷
    12 ∷ 0 ∷ 0 ∷ 48 ∷ 8 ∷ 0 ∷ 0 ∷ 4 ∷ 0 ∷ 0 ∷ 0 ∷ 0 ∷ 0 ∷ 32 ∷ 0 ∷ 5 ∷
    2 ∷ 0 ∷ 0 ∷ 3 ∷ 11 ∷ 8 ∷ 22 ∷ 0 ∷ 0 ∷ 4 ∷ 2 ∷ 0 ∷ 3 ∷ 1 ∷ 2 ∷ 2 ∷
    4 ∷ 4 ∷ 32 ∷ 4 ∷ 4 ∷ 16 ∷ 10 ∷ 205 ∷ 0 ∷ 0 ∷ 0 ∷ 0 ∷ 0 ∷ 0 ∷ 0 ∷ 203 ∷
    128 ∷ 196 ∷ 230 ∷ []

-- ---- Laws

-- They can be created. Of the first two these are the pieces, from the index to the superblock, and the first dataset is the one that is
-- known; of the third this is the dataset header.
pub record AreAsOutside : Type 0 where
  pub twos_sound : IsCreatable twos
  pub twos_described : described_of twos ≡ described_as 0 188
  pub twos_end : end_of twos ≡ 558
  pub twos_pieces : created_writes twos
      ≡ piece_of created_file 260 298 ∷ piece_of created_file 188 72 ∷ piece_of created_file 106 82 ∷ piece_of created_file 48 58 ∷ piece_of created_file 0 48 ∷ []
  pub grid_sound : IsCreatable grid
  pub grid_end : end_of grid ≡ 250
  pub grid_pieces : created_writes grid ≡ piece_of grid_file 212 38 ∷ piece_of grid_file 106 106 ∷ piece_of grid_file 48 58 ∷ piece_of grid_file 0 48 ∷ []
  pub fixed_sound : IsCreatable fixed
  pub fixed_end : end_of fixed ≡ 575
  pub fixed_header : header_block fixed ≡ (106, fixed_bytes)
