-- By computing, at each position.
use Rattle.std.proofs.Common.{ℕ, [], ◌∷◌, pos, refl, ◌/◌, ◌%◌}
use Rattle.h5w_model.specs.Arrays.{numbers_in}
use Rattle.h5w_model.specs.Checksum.{mix_line, mixed, finish_line, finished, added, rounds, sum_of}
use Rattle.h5w_model.specs.Headers.{prefix_at, msgs_in, header_at, messages_at, prefix_bytes, data_in_header, rows_in_header, index_in_header, rows_changed, header_view}
use Rattle.h5w_model.specs.Images.{apply, first_pieces, pieces}
use Rattle.h5w_model.specs.Integers.{value_at}
use Rattle.h5w_model.specs.Links.{links_at, find_link}
use Rattle.h5w_model.specs.Messages.{shape_tests, shape_fields, shape_at, int_type_tests, int_type_fields, int_type_at, fill_tests, fill_fields, fill_at, fill_value_bytes, layout_fields, layout_at}
use Rattle.h5w_model.specs.Numbers.{num, le, halvings, width_of}
use Rattle.h5w_model.specs.Tables.{cell}
use Rattle.h5w_model.specs.Prefixed.{image_at}
use Rattle.h5w_examples.specs.Readings.{reading_as, summary_as, two_flushes}
use Rattle.h5w_examples.proofs.CellLemmas.{each_cell}
use Rattle.h5w_examples.proofs.logs.two_flushes_read.Goals as goal

pub returns-clause-created : goal.returns-clause-created
unfolding numbers_in mix_line mixed finish_line finished added rounds sum_of prefix_at msgs_in header_at messages_at prefix_bytes data_in_header rows_in_header index_in_header rows_changed header_view apply first_pieces pieces value_at links_at find_link shape_tests shape_fields shape_at int_type_tests int_type_fields int_type_at fill_tests fill_fields fill_at fill_value_bytes layout_fields layout_at num le halvings width_of
returns-clause-created c = record {
  summary = summary_as 0 0 5 558;
  valid = refl;
  reads = record {
    shown = reading_as 0 188 [];
    shows = refl;
    rows_are = refl;
    columns_are = refl;
    count = refl;
    values_are = each_cell (λ (k : ℕ). cell (image_at two_flushes 5) (reading_as 0 188 []) (k / 1) (k % 1)) 0 [] refl;
  };
}

pub returns-clause-three : goal.returns-clause-three
unfolding numbers_in mix_line mixed finish_line finished added rounds sum_of prefix_at msgs_in header_at messages_at prefix_bytes data_in_header rows_in_header index_in_header rows_changed header_view apply first_pieces pieces value_at links_at find_link shape_tests shape_fields shape_at int_type_tests int_type_fields int_type_at fill_tests fill_fields fill_at fill_value_bytes layout_fields layout_at num le halvings width_of
returns-clause-three c = record {
  summary = summary_as 3 2 5 574;
  valid = refl;
  reads = record {
    shown = reading_as 3 188 (558 ∷ 566 ∷ []);
    shows = refl;
    rows_are = refl;
    columns_are = refl;
    count = refl;
    values_are = each_cell (λ (k : ℕ). cell (image_at two_flushes 11) (reading_as 3 188 (558 ∷ 566 ∷ [])) (k / 1) (k % 1)) 3 (pos 1 ∷ pos 2 ∷ pos 3 ∷ []) refl;
  };
}

pub returns-clause-between : goal.returns-clause-between
unfolding numbers_in mix_line mixed finish_line finished added rounds sum_of prefix_at msgs_in header_at messages_at prefix_bytes data_in_header rows_in_header index_in_header rows_changed header_view apply first_pieces pieces value_at links_at find_link shape_tests shape_fields shape_at int_type_tests int_type_fields int_type_at fill_tests fill_fields fill_at fill_value_bytes layout_fields layout_at num le halvings width_of
returns-clause-between c = record {
  summary = summary_as 3 2 5 574;
  valid = refl;
  reads = record {
    shown = reading_as 3 188 (558 ∷ 566 ∷ []);
    shows = refl;
    rows_are = refl;
    columns_are = refl;
    count = refl;
    values_are = each_cell (λ (k : ℕ). cell (image_at two_flushes 12) (reading_as 3 188 (558 ∷ 566 ∷ [])) (k / 1) (k % 1)) 3 (pos 1 ∷ pos 2 ∷ pos 3 ∷ []) refl;
  };
}

pub returns-clause-four : goal.returns-clause-four
unfolding numbers_in mix_line mixed finish_line finished added rounds sum_of prefix_at msgs_in header_at messages_at prefix_bytes data_in_header rows_in_header index_in_header rows_changed header_view apply first_pieces pieces value_at links_at find_link shape_tests shape_fields shape_at int_type_tests int_type_fields int_type_at fill_tests fill_fields fill_at fill_value_bytes layout_fields layout_at num le halvings width_of
returns-clause-four c = record {
  summary = summary_as 4 2 5 574;
  valid = refl;
  reads = record {
    shown = reading_as 4 188 (558 ∷ 566 ∷ []);
    shows = refl;
    rows_are = refl;
    columns_are = refl;
    count = refl;
    values_are = each_cell (λ (k : ℕ). cell (image_at two_flushes 13) (reading_as 4 188 (558 ∷ 566 ∷ [])) (k / 1) (k % 1)) 4 (pos 1 ∷ pos 2 ∷ pos 3 ∷ pos 4 ∷ []) refl;
  };
}
