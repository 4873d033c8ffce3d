-- The bytes of three created files.
use Rattle.std.proofs.Common.{◌≡◌, [], ◌∷◌, refl, arith}
use Rattle.h5w_model.specs.Checksum.{mix_line, mixed, finish_line, finished, added, rounds, sum_of}
use Rattle.h5w_model.specs.Headers.{prefix_bytes, header_bytes}
use Rattle.h5w_model.specs.Integers.{cell_bytes_of}
use Rattle.h5w_model.specs.Messages.{shape_bytes, int_type_bytes, fill_value_bytes, layout_bytes}
use Rattle.h5w_model.specs.Numbers.{num, le, halvings, width_of}
use Rattle.h5w_model.specs.Arrays.{number_bytes}
use Rattle.h5w_examples.specs.Files.{created_file}
use Rattle.h5w_examples.specs.Readings.{piece_of, described_as}
use Rattle.h5w_creation_laws.specs.CreatedFiles.{IsCreatable, end_of, described_of, header_block, created_writes}
use Rattle.h5w_creation_laws.specs.CreatedExamples.{twos, grid, grid_file, fixed, fixed_bytes, AreAsOutside}

twos_sound : IsCreatable twos
twos_sound = record {
  named = omega arith;
  name_bound = omega arith;
  int_type = refl;
  fill = tt;
  some_rows = omega arith;
  rows_bound = omega arith;
  some_cols = omega arith;
  cols_bound = omega arith;
  some_columns = omega arith;
  columns_bound = omega arith;
  small = omega arith;
  shaped = refl;
  line = λ e. refl;
  indexed = refl;
}

grid_sound : IsCreatable grid
unfolding cell_bytes_of le
grid_sound = record {
  named = omega arith;
  name_bound = omega arith;
  int_type = refl;
  fill = refl;
  some_rows = omega arith;
  rows_bound = omega arith;
  some_cols = omega arith;
  cols_bound = omega arith;
  some_columns = omega arith;
  columns_bound = omega arith;
  small = omega arith;
  shaped = refl;
  line = λ e. absurd (omega (arith, e));
  indexed = refl;
}

fixed_sound : IsCreatable fixed
fixed_sound = record {
  named = omega arith;
  name_bound = omega arith;
  int_type = refl;
  fill = tt;
  some_rows = omega arith;
  rows_bound = omega arith;
  some_cols = omega arith;
  cols_bound = omega arith;
  some_columns = omega arith;
  columns_bound = omega arith;
  small = omega arith;
  shaped = refl;
  line = λ e. absurd (omega (arith, e));
  indexed = refl;
}

twos_described : described_of twos ≡ described_as 0 188
unfolding halvings width_of
twos_described = refl

twos_end : end_of twos ≡ 558
unfolding halvings width_of
twos_end = refl

grid_end : end_of grid ≡ 250
unfolding halvings width_of cell_bytes_of le
grid_end = refl

fixed_end : end_of fixed ≡ 575
unfolding halvings width_of
fixed_end = refl

twos_pieces : created_writes twos
    ≡ piece_of created_file 260 298 ∷ piece_of created_file 188 72 ∷ piece_of created_file 106 82 ∷ piece_of created_file 48 58 ∷ piece_of created_file 0 48 ∷ []
unfolding mix_line mixed finish_line finished added rounds sum_of prefix_bytes header_bytes shape_bytes int_type_bytes fill_value_bytes layout_bytes num le halvings width_of number_bytes
twos_pieces = refl

grid_pieces : created_writes grid ≡ piece_of grid_file 212 38 ∷ piece_of grid_file 106 106 ∷ piece_of grid_file 48 58 ∷ piece_of grid_file 0 48 ∷ []
unfolding mix_line mixed finish_line finished added rounds sum_of prefix_bytes header_bytes shape_bytes int_type_bytes fill_value_bytes layout_bytes num le halvings width_of cell_bytes_of
grid_pieces = refl

fixed_header : header_block fixed ≡ (106, fixed_bytes)
unfolding mix_line mixed finish_line finished added rounds sum_of prefix_bytes header_bytes shape_bytes int_type_bytes fill_value_bytes layout_bytes num le halvings width_of
fixed_header = refl

pub as_outside : AreAsOutside
as_outside = record {
  twos_sound = twos_sound;
  twos_described = twos_described;
  twos_end = twos_end;
  twos_pieces = twos_pieces;
  grid_sound = grid_sound;
  grid_end = grid_end;
  grid_pieces = grid_pieces;
  fixed_sound = fixed_sound;
  fixed_end = fixed_end;
  fixed_header = fixed_header;
}
