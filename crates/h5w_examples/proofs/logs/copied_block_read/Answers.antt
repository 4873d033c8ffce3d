-- By computing, at each position.
use Rattle.std.proofs.Common.{ℕ, [], ◌∷◌, pos, refl, ◌/◌, ◌%◌}
use Rattle.h5w_model.specs.Arrays.{numbers_in}
use Rattle.h5w_model.specs.Checksum.{mix_line, mixed, finish_line, finished, added, rounds, sum_of}
use Rattle.h5w_model.specs.Headers.{prefix_at, msgs_in, header_at, messages_at, prefix_bytes, data_in_header, rows_in_header, index_in_header, rows_changed, header_view}
use Rattle.h5w_model.specs.Images.{apply, first_pieces, pieces}
use Rattle.h5w_model.specs.Integers.{value_at}
use Rattle.h5w_model.specs.Links.{links_at, find_link}
use Rattle.h5w_model.specs.Messages.{shape_tests, shape_fields, shape_at, int_type_tests, int_type_fields, int_type_at, fill_tests, fill_fields, fill_at, fill_value_bytes, layout_fields, layout_at}
use Rattle.h5w_model.specs.Numbers.{num, le, halvings}
use Rattle.h5w_model.specs.Tables.{cell}
use Rattle.h5w_model.specs.Prefixed.{image_at}
use Rattle.h5w_examples.specs.Readings.{one_row_reading, summary_as, copied_block}
use Rattle.h5w_examples.proofs.CellLemmas.{each_cell}
use Rattle.h5w_examples.proofs.logs.copied_block_read.Goals as goal

pub returns-clause-five : goal.returns-clause-five
unfolding numbers_in mix_line mixed finish_line finished added rounds sum_of prefix_at msgs_in header_at messages_at prefix_bytes data_in_header rows_in_header index_in_header rows_changed header_view apply first_pieces pieces value_at links_at find_link shape_tests shape_fields shape_at int_type_tests int_type_fields int_type_at fill_tests fill_fields fill_at fill_value_bytes layout_fields layout_at halvings num le
returns-clause-five c = record {
  summary = summary_as 5 5 6 728;
  valid = refl;
  reads = record {
    shown = one_row_reading 5 (558 ∷ 562 ∷ 566 ∷ 570 ∷ 574 ∷ []);
    shows = refl;
    rows_are = refl;
    columns_are = refl;
    count = refl;
    values_are = each_cell (λ (k : ℕ). cell (image_at copied_block 15) (one_row_reading 5 (558 ∷ 562 ∷ 566 ∷ 570 ∷ 574 ∷ [])) (k / 1) (k % 1)) 5 (pos 1 ∷ pos 2 ∷ pos 3 ∷ pos 4 ∷ pos 5 ∷ []) refl;
  };
}

pub returns-clause-between : goal.returns-clause-between
unfolding numbers_in mix_line mixed finish_line finished added rounds sum_of prefix_at msgs_in header_at messages_at prefix_bytes data_in_header rows_in_header index_in_header rows_changed header_view apply first_pieces pieces value_at links_at find_link shape_tests shape_fields shape_at int_type_tests int_type_fields int_type_at fill_tests fill_fields fill_at fill_value_bytes layout_fields layout_at halvings num le
returns-clause-between c = record {
  summary = record (summary_as 5 6 6 882) { lost = 150 };
  valid = refl;
  reads = record {
    shown = one_row_reading 5 (558 ∷ 562 ∷ 566 ∷ 570 ∷ 574 ∷ []);
    shows = refl;
    rows_are = refl;
    columns_are = refl;
    count = refl;
    values_are = each_cell (λ (k : ℕ). cell (image_at copied_block 20) (one_row_reading 5 (558 ∷ 562 ∷ 566 ∷ 570 ∷ 574 ∷ [])) (k / 1) (k % 1)) 5 (pos 1 ∷ pos 2 ∷ pos 3 ∷ pos 4 ∷ pos 5 ∷ []) refl;
  };
}

pub returns-clause-six : goal.returns-clause-six
unfolding numbers_in mix_line mixed finish_line finished added rounds sum_of prefix_at msgs_in header_at messages_at prefix_bytes data_in_header rows_in_header index_in_header rows_changed header_view apply first_pieces pieces value_at links_at find_link shape_tests shape_fields shape_at int_type_tests int_type_fields int_type_at fill_tests fill_fields fill_at fill_value_bytes layout_fields layout_at halvings num le
returns-clause-six c = record {
  summary = record (summary_as 6 6 6 882) { lost = 150 };
  valid = refl;
  reads = record {
    shown = one_row_reading 6 (558 ∷ 562 ∷ 566 ∷ 570 ∷ 574 ∷ 728 ∷ []);
    shows = refl;
    rows_are = refl;
    columns_are = refl;
    count = refl;
    values_are = each_cell (λ (k : ℕ). cell (image_at copied_block 21) (one_row_reading 6 (558 ∷ 562 ∷ 566 ∷ 570 ∷ 574 ∷ 728 ∷ [])) (k / 1) (k % 1)) 6 (pos 1 ∷ pos 2 ∷ pos 3 ∷ pos 4 ∷ pos 5 ∷ pos 6 ∷ []) refl;
  };
}
